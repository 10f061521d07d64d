-- What is found of a signal, and of the way to it and past it: a refusal by the rules, or what the sheet has.
use Rattle.std.specs.Prelude.{Ok, Err}
use mathlib.Core.Path.{◌≡◌, refl, sym, ap}
use mathlib.Core.List.{List}
use Prim.Native.Nat.{ℕ, ◌+◌, ◌-◌, ◌≤◌, ◌<◌}
use native.Mathlib.Omega.{arith}
use Rattle.train.specs.declared.Metre.{Metre}
use Rattle.train.specs.declared.refusal.Refusal.{Refusal}
use Rattle.train.specs.Number.{number}
use Rattle.train.specs.Units.{metres}
use Rattle.train.proofs.Judging.{told}
use Rattle.sheet.specs.Sheet.{line_of}
use Rattle.sheet_walk.specs.declared.Grade.{Grade}
use Rattle.query_way.specs.Way.{tail_of}
use Rattle.query_way.specs.declared.Located.{Located}
use Rattle.query_way.specs.Find.{refusal, GradeOver, Past, Ahead, Finds}
use Rattle.query_way.proofs.Ways.{reached, way-of, governing-of, leads-of, way-judges}

pub turned-away : (s : List ℕ) (k head : ℕ) (r : Refusal) → refusal s k head ≡ number r → Ahead s k head (Err r)
turned-away s k head r e = record { refused = e; spans = (told (way-judges s k head) (sym e)).1; sheet = tt; read = tt; reached = tt }

pub located : (l : Located) (k head : ℕ) → let line = line_of l.sheet.bytes.now in k < line.signals → l.place ≡ metres (line.place k) → l.overlap ≡ metres (line.overlap k) → head ≤ l.place.0 → Ahead l.sheet.bytes.now k head (Ok l)
located l k head n p o h =
    let s = l.sheet.bytes.now in
    let i : head ≤ (line_of s).place k = omega (arith, h, ap (λ (m : Metre). m.0) p) in
    let e = reached s k head l.sheet.accepted n i in
    record {
      refused = e;
      spans = (told (way-judges s k head) (sym e)).1;
      sheet = refl;
      read = record { sheet = l.sheet.accepted; number = n; place = p; overlap = o };
      reached = i;
    }

pub found : (l : Located) (k head length : ℕ) (ahead past : Grade) → let s = l.sheet.bytes.now in Ahead s k head (Ok l) → GradeOver (line_of s) (tail_of head length) (l.place.0 + 1) ahead → Past (line_of s) l.place.0 l.overlap.0 length past → Finds s k head length (Ok (record { distance = metres (l.place.0 - head); ahead = ahead.gradient; overlap = l.overlap; past = past.gradient }, record { overlap = past.stretch; ahead = ahead.stretch }))
found l k head length ahead past i a p =
    let line = line_of l.sheet.bytes.now in
    let e = i.read.place in
    let f = i.read.overlap in
    let h : head ≤ l.place.0 = omega (arith, i.reached, ap (λ (m : Metre). m.0) e) in
    record {
      refused = i.refused;
      spans = i.spans;
      says =
          record {
            way = way-of line k head length l.place l.overlap ahead past e f a.least.value p.value;
            governing = governing-of line k head length l.place l.overlap ahead past e f a.least.number p.number;
            leads = leads-of line k head length l.place l.overlap ahead past e f h a p;
            ahead = a.moderate;
            past = p.moderate;
          };
    }
