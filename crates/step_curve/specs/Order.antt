-- How the four distances of one motion lie to each other, in whole millimetres.
use Rattle.std.specs.Prelude.{ℕ, ◌+◌, ◌*◌, ◌≤◌, ◌<◌}

-- document 02, Card 13: "EBI is at most SBI, SBI at most W, W at most P"
pub record InOrder (ebi sbi w p : ℕ) : Type 0 where
  pub ebi-sbi : ebi ≤ sbi
  pub sbi-w : sbi ≤ w
  pub w-p : w ≤ p

-- 1.5 s at V km/h, 1250 V / 3 mm, lie between two distances, each of them raised
pub record Apart (v near far : ℕ) : Type 0 where
  pub least : 3 * near + 1250 * v < 3 * far + 3
  pub most : 3 * far < 3 * near + 1250 * v + 3

-- document 01: from P on a train at V has 1.5 s to W, and from W on 1.5 s to SBI
pub record InTime (v sbi w p : ℕ) : Type 0 where
  pub warned : Apart v sbi w
  pub permitted : Apart v w p
