-- Worked matches, by the greedy matcher.
use Rattle.std.proofs.Common.{◌≡◌, true, false, Some, refl}
use Rattle.std.specs.Prelude.{codes}
use Rattle.std.specs.Str.{chars}
use Rattle.rc_model.specs.Syntax.Words.{written}
use Rattle.rc_model.specs.Mirrors.Greedy.{greedy}

two_stars : greedy false (written (codes "a*b") false) (codes "abab") ≡ Some true
unfolding chars
two_stars = refl

apart : greedy false (written (codes "[~a-c]") false) (codes "d") ≡ Some true
unfolding chars
apart = refl

among : greedy false (written (codes "[~a-c]") false) (codes "b") ≡ Some false
unfolding chars
among = refl

reversed : greedy false (written (codes "[c-a]") false) (codes "b") ≡ Some false
unfolding chars
reversed = refl

open_class : greedy false (written (codes "[") false) (codes "[") ≡ Some false
unfolding chars
open_class = refl

dot_explicit : greedy true (written (codes "*") false) (codes ".") ≡ Some false
unfolding chars
dot_explicit = refl

dot : greedy false (written (codes "*") false) (codes ".") ≡ Some true
unfolding chars
dot = refl

hidden : greedy true (written (codes "*") false) (codes ".h") ≡ Some true
unfolding chars
hidden = refl

slash : greedy true (written (codes "*?b") false) (codes "a/b") ≡ Some false
unfolding chars
slash = refl

spelled_slash : greedy true (written (codes "*/*b*") false) (codes "aa/abb") ≡ Some true
unfolding chars
spelled_slash = refl
