-- Coefficients' conditions decide by their rules.
use Rattle.train.specs.declared.Inertia.{Inertia}
use Rattle.train.specs.declared.Coefficients.{Coefficients}
use Rattle.train.specs.Refusal.{inertia_refusals, coefficient_refusals}
use Rattle.train.specs.Judged.{inertia_rule, coefficient_rule}
use Rattle.train.proofs.Settling.{Settles, ◌and◌, at_least, spanned}
use Rattle.train.proofs.Fives.{fives}

-- coefficients within their spans and steps
pub inertia-settles : (k : Inertia) → Settles (inertia_rule k) (inertia_refusals k)
inertia-settles k =
    let s =
    spanned 12 tt 80 120 k.ki1
    and spanned 12 tt 80 120 k.ki2
    and spanned 12 tt 80 120 k.ki3
    and at_least 12 tt k.i1 35
    and at_least 12 tt k.i2.rise 0
    and at_least 12 tt k.i2.fall 35 in
    record {
      numbers = s.numbers;
      yes = λ e. let (a, (b, (c, (d, (f, g))))) = s.yes e in record { ki1-least = a.0; ki1 = a.1; ki2-least = b.0; ki2 = b.1; ki3-least = c.0; ki3 = c.1; i1 = d; i2-up = f; i2 = g };
      no = λ l. let (e, f) = s.no l in (e, λ m. f ((m.ki1-least, m.ki1), ((m.ki2-least, m.ki2), ((m.ki3-least, m.ki3), (m.i1, (m.i2-up, m.i2))))));
    }

pub coefficients-settle : (k : Coefficients) → Settles (coefficient_rule k) (coefficient_refusals k)
coefficients-settle k =
    let s =
    at_least 12 tt k.dt 200
    and at_least 12 tt k.h 50
    and spanned 12 tt 30 150 k.kr
    and at_least 12 tt k.cr 10
    and at_least 12 tt k.nc.plus 10
    and at_least 12 tt k.nc.minus 10
    and at_least 12 tt k.vc.0 400
    and fives 12 tt k.vc.0
    and inertia-settles k.inertia in
    record {
      numbers = s.numbers;
      yes = λ e.
          let (a, (b, (c, (d, (f, (g, (h, (i, j)))))))) = s.yes e in
          record { dt = a; h = b; kr-least = c.0; kr = c.1; cr = d; plus = f; minus = g; vc = h; vc-fives = i; inertia = j };
      no = λ l. let (e, f) = s.no l in (e, λ m. f (m.dt, (m.h, ((m.kr-least, m.kr), (m.cr, (m.plus, (m.minus, (m.vc, (m.vc-fives, m.inertia)))))))));
    }
