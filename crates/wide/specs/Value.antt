-- What a wide number stands for.
use Rattle.std.specs.Prelude.{ℕ, ◌+◌, ◌*◌, ◌^◌}
use Rattle.wide.specs.declared.Wide.{Wide}

unfoldable pub value_of : Wide → ℕ
value_of w = w.low + 2 ^ 64 * (w.mid + 2 ^ 64 * w.high)

-- Three words hold what is below this. It stays shut in contracts: omega takes it for an unknown, not for a number of 58 digits.
unfoldable pub limit : ℕ
limit = 2 ^ 192
