-- `course_of`: every product fits for coefficients within their spans, and each number is the paper's.
use Rattle.step_braking.proofs.Coursed.{is-course}
use Rattle.step_course.proofs.course_of.Goals as goal

pub returns : goal.returns
returns c =
    rw (c.from.ensures, c.from-2.ensures, c.from-3.ensures, c.from-4.ensures, c.from-5.ensures, c.from-6.ensures, c.from-7.ensures)
    (is-course c.args.k c.args.train c.args.g c.requires.0 _ _ _ _ c.of_train.ensures c.pull_of-pull.ensures c.nominal.ensures)
