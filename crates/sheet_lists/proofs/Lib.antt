mod Complemented
