-- Gradients in order: those at most each other are the same, and the signed numbers are in the same order.
use mathlib.Core.Path.{◌≡◌, refl, ap}
use Prim.Native.Nat.{ℕ, suc, ◌+◌, ◌≤◌}
use native.Mathlib.Omega.{arith}
use native.Mathlib.Nat.{zero-add, add-zero}
use borrow.Author.Tests.{le-leb, lt-leb}
use lib.Dec.{leb, leb-suc-suc}
use lib.IntN.{ℤ, pos, negsuc}
use lib.Signed.{le_z}
use Rattle.train.specs.Gradient.{gradient_of}
use Rattle.sheet_span.specs.Least.{◌≼◌}

pub ≼-same : (y z : ℤ) → gradient_of y ≼ gradient_of z → gradient_of z ≼ gradient_of y → gradient_of y ≡ gradient_of z
≼-same (pos n) (pos m) a b = ap (λ (k : ℕ). gradient_of (pos k)) (let e : n ≡ m = omega arith in e)
≼-same (pos n) (negsuc m) a b = absurd (let c : n + suc m ≤ 0 + 0 = a in omega arith)
≼-same (negsuc n) (pos m) a b = absurd (let c : m + suc n ≤ 0 + 0 = b in omega arith)
≼-same (negsuc n) (negsuc m) a b = ap (λ (k : ℕ). gradient_of (negsuc k)) (let e : n ≡ m = omega arith in e)

-- the test of two signed numbers is that of their gradients
pub signed-order : (y z : ℤ) → leb ((gradient_of y).rise + (gradient_of z).fall) ((gradient_of z).rise + (gradient_of y).fall) ≡ le_z y z
signed-order (pos n) (pos m) = rw (add-zero n, add-zero m) refl
signed-order (pos n) (negsuc m) = lt-leb (n + suc m) (0 + 0) (omega arith)
signed-order (negsuc n) (pos m) = le-leb (0 + 0) (m + suc n) (omega arith)
signed-order (negsuc n) (negsuc m) = rw (zero-add (suc m), zero-add (suc n)) (leb-suc-suc m n)
