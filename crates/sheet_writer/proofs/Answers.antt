-- What the writer promises, on each of its answers.
use mathlib.Core.Path.{◌≡◌, refl, sym, ap, subst, ◌∙◌}
use mathlib.Core.Bool.{true, false}
use mathlib.Core.List.{List, [], ◌∷◌, ◌++◌}
use Prim.Native.Nat.{ℕ, suc, ◌<◌}
use native.Mathlib.Omega.{arith}
use lib.ListN.{length, take, drop, length-append, length-drop}
use lib.Seq.{take_at, drop_at}
use Rattle.train.specs.Lent.{FirstDemand}
use Rattle.train.proofs.Refusals.{Rising}
use Rattle.train.proofs.Lending.{refused-demand}
use Rattle.lists.specs.Put.{put}
use Rattle.lists.proofs.Laid.{put_front}
use Rattle.sheet.specs.Kept.{IsSheet}
use Rattle.sheet.proofs.Kept.{sheet-of}
use Rattle.sheet.specs.Fields.{Fields, listed, writable, sheet_of, fields_of}
use Rattle.sheet.proofs.RoundTrip.{bytes-length}
use Rattle.sheet.proofs.Writable.{written-sheet, written_back}
use Rattle.sheet_writer.proofs.Room.{Short, Roomy, short, roomy, spans}
use Rattle.sheet_writer.specs.Answer.{size, write_refusals, write_of, buffer_after, Writes}

never : {A : Type 0} (n : ℕ) → suc n ≡ 0 → A
never n e = absurd (let z : suc n ≡ 0 = e in omega arith)

-- the refusals go by the one order, so the first that applies is the answer (the train's `soonest` and `applies`)
pub write-rising : (f : Fields) (room : ℕ) → Rising 1 (write_refusals f room)
write-rising f room = (tt, (tt, tt))

module _ (f : Fields) (lent : List ℕ) where
  -- a refusal
  left_alone : (n k : ℕ) → k ≡ 0 → FirstDemand n (k ∷ []) lent lent k
  left_alone n k z = rw z (refused-demand n (0 ∷ []) lent (refl, tt))

  pub broken : writable f ≡ false → Writes f f lent (record { refusal = 7; length = 0 }) lent
  unfolding write_of buffer_after
  broken w =
      record {
        unwritten = refl;
        lent = left_alone 7 _ (omega arith);
        spans = spans f lent 7 (simp w);
        long = never 6;
        answer = simp w;
        memory = simp w;
        sheet = never 6;
        back = never 6;
      }

  module _ (w : writable f ≡ true) where
    pub no_room : Short f lent → Writes f f lent (record { refusal = 11; length = 0 }) lent
    unfolding write_of buffer_after
    no_room h =
        let t = short f lent h in
        record {
          unwritten = refl;
          lent = left_alone 11 _ (omega arith);
          spans = spans f lent 11 (simp (w, t));
          long = never 10;
          answer = simp (w, t);
          memory = simp (w, t);
          sheet = never 10;
          back = never 10;
        }

    pub written : {after : List ℕ} → Roomy f lent → after ≡ put 0 (sheet_of f) lent → Writes f f lent (record { refusal = 0; length = size f }) after
    unfolding write_of buffer_after
    written {after} h e =
        let t = roomy f lent h in
        let n = bytes-length (listed f) in
        let m : after ≡ sheet_of f ++ drop (size f) lent = e ∙ put_front (sheet_of f) lent ∙ ap (λ (k : ℕ). sheet_of f ++ drop k lent) n in
        let front : take (size f) after ≡ sheet_of f = ap (take (size f)) m ∙ take_at (sheet_of f) (drop (size f) lent) (size f) n in
        let behind : drop (size f) after ≡ drop (size f) lent = ap (drop (size f)) m ∙ drop_at (sheet_of f) (drop (size f) lent) (size f) n in
        let whole : length after ≡ length lent = ap length m ∙ length-append (sheet_of f) (drop (size f) lent) ∙ (let i = length-drop (size f) lent in omega arith) in
        record {
          unwritten = refl;
          lent = record { zeros = λ l. absurd (let z : 0 < 0 = l in omega arith); untouched = λ l. absurd (let z : 0 < 0 = l in omega arith); room = omega arith; size = whole; beyond = behind };
          spans = spans f lent 0 (simp (w, t));
          long = λ z. omega arith;
          answer = simp (w, t);
          memory = m ∙ simp (w, t);
          sheet = λ z. subst IsSheet (sym front) (sheet-of (sheet_of f) (written-sheet f w));
          back = λ z. ap fields_of front ∙ written_back f w;
        }
