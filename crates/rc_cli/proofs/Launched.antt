-- The words and entries of a launch make the request that the definitions read.
use Rattle.std.proofs.Common.{◌≡◌, ◌↔◌, ℕ, List, [], ◌∷◌, Bool, true, false, if◌then◌else◌, Option, Some, None, Result, Ok, Err, refl, sym, ap, subst}
use Rattle.std.specs.Prelude.{codes}
use Rattle.std.specs.Str.{bytes_eq}
use Rattle.std.proofs.lemmas.Bool.{false≢true}
use Rattle.std.proofs.lemmas.Slice.Eq.{bytes_eq-Decides}
use Rattle.rc_model.specs.Handed.Arguments.{after_mark, as_option, read_image, reads_by}
use Rattle.rc_model.specs.Run.State.{State}
use Rattle.rc_model.specs.Syntax.Tree.{Node, cmd}
use Rattle.rc_model.specs.declared.fault.ImageFault.{ImageFault}
use Rattle.rc_cli.specs.Launches.{AsksFor, LaunchesAreRun, OptionsAreAlike, image_options, options_asked}
use Rattle.rc_cli.specs.Requests.{Request, Source, Input, Text, File, Image, is_option, request_of, request_of_script, request_of_text}

-- a request for the image in these words, and one for the file of this name
image : Bool → List (List ℕ) → Option Request
image strict others = Some (record { strict = strict; source = Image; arguments = others })

file : Bool → List ℕ → List (List ℕ) → Option Request
file strict first others = Some (record { strict = strict; source = File first; arguments = others })

-- a text after `-c` is no image
no_image : (strict : Bool) (others : List (List ℕ)) → options_asked (request_of_text strict others) ≡ None
no_image strict [] = refl
no_image strict (text ∷ others) = refl

-- by what the first word is: `-c`, `-S` or another option
by_word : (strict : Bool) (first : List ℕ) (others : List (List ℕ)) (is_text is_mark is_other : Bool) → (is_text ≡ true → is_mark ≡ false) →
    options_asked (if is_text then request_of_text strict others else if is_mark then image strict others else if is_other then None else file strict first others)
    ≡ (if is_mark then Some (strict, others) else None)
unfolding image file
by_word strict first others true true is_other apart = absurd (false≢true (sym (apart refl)))
by_word strict first others true false is_other apart = no_image strict others
by_word strict first others false true is_other apart = refl
by_word strict first others false false true apart = refl
by_word strict first others false false false apart = refl

-- `-c` isn't `-S`
no_mark : (first : List ℕ) → bytes_eq first (codes "-c") ≡ true → bytes_eq first (codes "-S") ≡ false
no_mark first e = ap (λ w. bytes_eq w (codes "-S")) ((bytes_eq-Decides first (codes "-c")).0 e)

after_strict : (strict : Bool) (words : List (List ℕ)) → options_asked (request_of_script strict words) ≡ after_mark strict words
unfolding image file
after_strict strict [] = refl
after_strict strict (first ∷ others) =
    by_word strict first others (bytes_eq first (codes "-c")) (bytes_eq first (codes "-S")) (is_option first) (no_mark first)

by_strict : (first : List ℕ) (others : List (List ℕ)) (strict : Bool) →
    options_asked (if strict then request_of_script true others else request_of_script false (first ∷ others))
    ≡ (if strict then after_mark true others else after_mark false (first ∷ others))
by_strict first others true = after_strict true others
by_strict first others false = after_strict false (first ∷ others)

pub options_are_alike : OptionsAreAlike
options_are_alike [] = refl
options_are_alike (first ∷ others) = by_strict first others (bytes_eq first (codes "-e"))

-- ** what is run

value_of : (read : Result (Node cmd × State) ImageFault) (x : Node cmd × State) → (as_option read ≡ Some x) ↔ (read ≡ Ok x)
value_of (Ok y) x = (λ h. cc, λ h. cc)
value_of (Err e) x = (λ h. absurd cc, λ h. absurd cc)

by_source : (source : Source) (strict : Bool) (words entries : List (List ℕ)) (x : Node cmd × State) →
    (reads_by (image_options source strict words) entries ≡ Some x) ↔ ((source ≡ Image) × (read_image strict words entries ≡ Ok x))
by_source Image strict words entries x =
    let same = value_of (read_image strict words entries) x in
    (λ h. (refl, same.0 h), λ h. same.1 h.1)
by_source Input strict words entries x = (λ h. absurd cc, λ h. absurd (let e = h.0 in cc))
by_source (Text text) strict words entries x = (λ h. absurd cc, λ h. absurd (let e = h.0 in cc))
by_source (File name) strict words entries x = (λ h. absurd cc, λ h. absurd (let e = h.0 in cc))

asked_for : (request : Option Request) (entries : List (List ℕ)) (t : Node cmd) (s : State) →
    (reads_by (options_asked request) entries ≡ Some (t, s)) ↔ AsksFor request entries t s
asked_for None entries t s = (λ h. absurd cc, λ h. absurd h)
asked_for (Some r) entries t s = by_source r.source r.strict r.arguments entries (t, s)

pub launches_are_run : LaunchesAreRun
launches_are_run words entries t s =
    subst (λ o. (reads_by o entries ≡ Some (t, s)) ↔ AsksFor (request_of words) entries t s) (options_are_alike words)
    (asked_for (request_of words) entries t s)
