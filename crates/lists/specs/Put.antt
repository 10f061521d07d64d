-- A list laid over another from a place on.
use Rattle.std.specs.Prelude.{List, ◌++◌, ℕ, ◌+◌, length, take, drop}

-- l with xs over it from place p on; what lies before and behind is as it was
unfoldable pub put : ℕ → List ℕ → List ℕ → List ℕ
put p xs l = take p l ++ xs ++ drop (p + length xs) l
