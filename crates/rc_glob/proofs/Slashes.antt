-- A name has no slash, at which a pattern character would stop.
use Rattle.std.proofs.Common.{◌≡◌, ℕ, Bool, true, false, not, ◌||◌, ◌&&◌, ◌==◌, cond, List, [], ◌∷◌, length, eqb-true, arith, refl, sym, ap, ◌∙◌}
use Rattle.std.specs.List.{list_any}
use Rattle.std.specs.Char.{encode_utf8}
use Rattle.std.specs.Str.{chars, encode_utf8_all, IsUtf8}
use Rattle.std.proofs.lemmas.Bool.{or_parts}
use Rattle.std.proofs.lemmas.List.Folds.{list_any-append}
use Rattle.std.proofs.lemmas.Str.{encode_ascii, encodes-chars}
use Rattle.rc_glob.proofs.Dots.{dots_by}
use Rattle.rc_model.specs.Syntax.Words.{Word, has_pattern}
use Rattle.rc_model.specs.Run.FileNames.{is_no_name}
use Rattle.rc_model.specs.Run.Patterns.{any_run, AnyOne, AnyRun, holds, is_dots, matches, Unclosed, one, OneOf, Outside, parts_from, parts_match, Pattern, stands_for, This}

abbrev has_slash : List ℕ → Bool
has_slash cs = list_any (λ c. c == 47) cs

stands : (c : ℕ) → (c == 47) ≡ false → stands_for true c ≡ true
stands c h = ap not h

-- ** characters without a slash match alike in both modes

one_alike : (s t : ℕ → Bool) (f g : List ℕ → Bool) (cs : List ℕ) → has_slash cs ≡ false → ((c : ℕ) → (c == 47) ≡ false → s c ≡ t c)
    → ((ds : List ℕ) → has_slash ds ≡ false → f ds ≡ g ds) → one s f cs ≡ one t g cs
one_alike s t f g [] h i k = refl
one_alike s t f g (c ∷ cs) h i k =
    let n = or_parts (c == 47) (has_slash cs) h in
    ap (λ b. b && f cs) (i c n.0) ∙ ap (λ b. t c && b) (k cs n.1)

run_alike : (f g : List ℕ → Bool) (cs : List ℕ) → has_slash cs ≡ false → ((ds : List ℕ) → has_slash ds ≡ false → f ds ≡ g ds)
    → any_run true f cs ≡ any_run false g cs
run_alike f g [] h k = k [] refl
run_alike f g (c ∷ cs) h k =
    let n = or_parts (c == 47) (has_slash cs) h in
    ap (λ b. b || (stands_for true c && any_run true f cs)) (k (c ∷ cs) h)
    ∙ ap (λ b. g (c ∷ cs) || (b && any_run true f cs)) (stands c n.0)
    ∙ ap (λ b. g (c ∷ cs) || b) (run_alike f g cs n.1 k)

parts_alike : (ps : List Pattern) (cs : List ℕ) → has_slash cs ≡ false → parts_match true ps cs ≡ parts_match false ps cs
parts_alike [] [] h = refl
parts_alike [] (c ∷ cs) h = refl
parts_alike (This d ∷ ps) cs h =
    one_alike (λ c. c == d) (λ c. c == d) (parts_match true ps) (parts_match false ps) cs h (λ c i. refl) (parts_alike ps)
parts_alike (AnyOne ∷ ps) cs h =
    one_alike (stands_for true) (stands_for false) (parts_match true ps) (parts_match false ps) cs h stands (parts_alike ps)
parts_alike (AnyRun ∷ ps) cs h = run_alike (parts_match true ps) (parts_match false ps) cs h (parts_alike ps)
parts_alike (OneOf members true ∷ ps) cs h =
    one_alike (λ c. stands_for true c && not (holds members c)) (λ c. not (holds members c)) (parts_match true ps) (parts_match false ps) cs h
    (λ c i. ap (λ b. b && not (holds members c)) (stands c i)) (parts_alike ps)
parts_alike (OneOf members false ∷ ps) cs h =
    one_alike (λ c. stands_for true c && holds members c) (holds members) (parts_match true ps) (parts_match false ps) cs h
    (λ c i. ap (λ b. b && holds members c) (stands c i)) (parts_alike ps)
parts_alike (Unclosed ∷ ps) cs h = refl

-- ** a text without the byte of a slash has no character that is one

abbrev is_separator : ℕ → Bool
is_separator c = (c == 47) || (c == 0)

not_slash : (b : Bool) (c : ℕ) → (c == 47) ≡ b → list_any is_separator (encode_utf8 c) ≡ false → b ≡ false
not_slash false c e h = refl
not_slash true c e h =
    let same : c ≡ 47 = eqb-true c 47 e in
    let bytes : encode_utf8 c ≡ 47 ∷ [] = ap encode_utf8 same ∙ encode_ascii 47 (omega arith) in
    sym (ap (list_any is_separator) bytes) ∙ h

no_slash : (cs : List ℕ) → list_any is_separator (encode_utf8_all cs) ≡ false → has_slash cs ≡ false
no_slash [] h = refl
no_slash (c ∷ cs) h =
    let n = or_parts (list_any is_separator (encode_utf8 c)) (list_any is_separator (encode_utf8_all cs))
    (sym (list_any-append is_separator (encode_utf8 c) (encode_utf8_all cs)) ∙ h) in
    ap (λ b. b || has_slash cs) (not_slash (c == 47) c refl n.0) ∙ no_slash cs n.1

-- ** a name

no_name_parts : (name : List ℕ) → is_no_name name ≡ false → (is_dots name ≡ false) × (list_any is_separator name ≡ false)
no_name_parts name h = or_parts (is_dots name) (list_any is_separator name) (or_parts (length name == 0) (is_dots name || list_any is_separator name) h).1

and_second : (a b : Bool) → b ≡ false → a && b ≡ false
and_second true b h = h
and_second false b h = refl

no_dots : (w : Word) (cs : List ℕ) → is_dots cs ≡ false → matches w cs true ≡ parts_match true (parts_from Outside w) cs
unfolding matches
no_dots w cs h = ap (λ b. cond b false (parts_match true (parts_from Outside w) cs)) (and_second (has_pattern w) (is_dots cs) h)

-- a name matches as any text does
pub name_matches : (w : Word) (name : List ℕ) → IsUtf8 name → is_no_name name ≡ false → matches w (chars name) false ≡ matches w (chars name) true
unfolding matches
name_matches w name u h =
    let n = no_name_parts name h in
    sym (no_dots w (chars name) (dots_by name u ∙ n.0)
    ∙ parts_alike (parts_from Outside w) (chars name) (no_slash (chars name) (ap (list_any is_separator) (encodes-chars name u) ∙ n.1)))
