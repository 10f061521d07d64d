-- The two bytes of a gradient, for any whole number. Nobody has to believe this: the promise is `writable`.
use Rattle.std.specs.Prelude.{cond, ℕ, ◌-◌, ltb, ℤ, pos, negsuc}

-- 36 for what 16 bits do not hold, which is as little a gradient of -35 to 35
abbrev pub coded : ℤ → ℕ
coded (pos n) = cond (ltb n 32768) n 36
coded (negsuc n) = cond (ltb n 32768) (65535 - n) 36
