-- The k-th places of a sheet's lists are what its bytes say of the k-th record.
use mathlib.Core.Path.{◌≡◌, sym}
use mathlib.Core.List.{List}
use Prim.Native.Nat.{ℕ, ◌<◌}
use lib.IntN.{pos}
use lib.ListN.{length}
use Rattle.lists.proofs.Places.{places-length, places-at}
use Rattle.sheet.specs.Sheet.{line_of}
use Rattle.sheet.specs.Fields.{fields_of, KthStretch, KthSignal}

module _ (s : List ℕ) where
  pub stretch-count : length (fields_of s).starts ≡ (line_of s).stretches
  stretch-count = places-length (line_of s).start (line_of s).stretches

  pub signal-count : length (fields_of s).places ≡ (line_of s).signals
  signal-count = places-length (line_of s).place (line_of s).signals

  module _ (k : ℕ) where
    pub kth-stretch : k < (line_of s).stretches → KthStretch s k ((line_of s).start k) ((line_of s).gradient k)
    kth-stretch h =
        let n = (line_of s).stretches in
        record { starts = sym (places-at (line_of s).start n k 0 h); gradients = sym (places-at (line_of s).gradient n k (pos 0) h) }

    pub kth-signal : k < (line_of s).signals → KthSignal s k ((line_of s).place k) ((line_of s).overlap k)
    kth-signal h =
        let n = (line_of s).signals in
        record { places = sym (places-at (line_of s).place n k 0 h); overlaps = sym (places-at (line_of s).overlap n k 0 h) }
