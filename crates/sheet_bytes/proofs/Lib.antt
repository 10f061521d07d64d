mod LowFirst
