-- The pieces of a spelling, and its words.
use Rattle.std.proofs.Common.{◌≡◌, refl, ap, sym, subst, ◌∙◌, ℕ, zero, suc, ◌<◌, ◌≤◌, ◌⊎◌, inl, inr, Bool, true, false, if◌then◌else◌, List, [], ◌∷◌, ◌++◌, length, take, drop, map, codes, Option, Some, None, arith, append_assoc, string_bytes}
use Rattle.std.specs.Prelude.{option_map, is_some}
use Rattle.std.specs.Str.{IsCharBoundary}
use Rattle.std.specs.Fmt.{decimal}
use Rattle.std.specs.declared.alloc.Global.{Global}
use Rattle.std.specs.declared.string.String.{String}
use Rattle.std.proofs.lemmas.List.{append-nil, length-map}
use Rattle.std.proofs.lemmas.Bool.{le-leb, cases_lt, false≢true, lt-leb}
use Rattle.std.proofs.lemmas.Grind.{common_steps}
use Rattle.rc_model.specs.Syntax.Tree.{Node, cmd}
use Rattle.rc_model.specs.Handed.Pieces.{longest_word, most_pieces, one_word, several_words, can_cut, last_cut, pieces, words_of}
use Rattle.rc_model.specs.Handed.Image.{image, image_words, is_short, node_image}
use Rattle.law_image.proofs.Cuts.{cut_back, cut_here}
use Rattle.rc_model.specs.declared.fault.InputError.TheVariants as error
use Rattle.rc_model.specs.declared.fault.ImageFault.TheVariants as fault
use Rattle.rc_spelling.specs.Faults.{ImageError}
use Rattle.rc_image.specs.Images.{Refuses, short_image, where_short, written}

-- ** where a text can be cut

-- a place after which no other is a place
abbrev IsLast : ℕ → List ℕ → ℕ → Type 0
IsLast limit text n = (i : ℕ) → n < i → i ≤ limit → IsCharBoundary text i → ⊥

-- the nearest place is the last
last_here : (limit : ℕ) (text : List ℕ) (n : ℕ) → IsCharBoundary text n → IsLast (suc limit) text n → (n < suc limit → last_cut limit text ≡ n) →
    (t : Bool) → can_cut (suc limit) text ≡ t → (n < suc limit) ⊎ (n ≡ suc limit) → (if t then suc limit else last_cut limit text) ≡ n
last_here limit text n b k below true e (inl l) = absurd (k (suc limit) l (omega arith) (cut_back (suc limit) text e))
last_here limit text n b k below true e (inr l) = sym l
last_here limit text n b k below false e (inl l) = below l
last_here limit text n b k below false e (inr l) = absurd (false≢true (sym e ∙ cut_here (suc limit) text (subst (IsCharBoundary text) l b)))

at_most : (n limit : ℕ) → n ≤ suc limit → (n < suc limit) ⊎ (suc limit ≤ n) → (n < suc limit) ⊎ (n ≡ suc limit)
at_most n limit h (inl l) = inl l
at_most n limit h (inr l) = inr (omega arith)

pub cut_is : (limit : ℕ) (text : List ℕ) (n : ℕ) → n ≤ limit → IsCharBoundary text n → IsLast limit text n → last_cut limit text ≡ n
unfolding last_cut
cut_is zero text n h b k = omega arith
cut_is (suc limit) text n h b k =
    last_here limit text n b k (λ l. cut_is limit text n (omega arith) b (λ i m o. k i m (omega arith)))
    (can_cut (suc limit) text) refl (at_most n limit h (cases_lt n (suc limit)))

-- ** pieces, after those that were cut

pub cut_after : List (List ℕ) → ℕ → List ℕ → Option (List (List ℕ))
cut_after front most text = option_map (λ (rest : List (List ℕ)). front ++ rest) (pieces most longest_word text)

nothing_before : (o : Option (List (List ℕ))) → option_map (λ (rest : List (List ℕ)). [] ++ rest) o ≡ o
nothing_before None = refl
nothing_before (Some rest) = refl

pub cut_start : (most : ℕ) (text : List ℕ) → cut_after [] most text ≡ pieces most longest_word text
unfolding cut_after
cut_start most text = nothing_before (pieces most longest_word text)

pub cut_end : (most : ℕ) (front : List (List ℕ)) (text : List ℕ) → length text ≡ 0 → cut_after front most text ≡ Some front
unfolding cut_after pieces
cut_end zero front [] h = ap Some (append-nil front)
cut_end (suc most) front [] h = ap Some (append-nil front)
cut_end most front (b ∷ bs) h = absurd (omega arith)

pub cut_full : (most : ℕ) (front : List (List ℕ)) (text : List ℕ) → 0 < length text → most ≡ 0 → cut_after front most text ≡ None
unfolding cut_after pieces
cut_full zero front (b ∷ bs) l h = refl
cut_full zero front [] l h = absurd (omega arith)
cut_full (suc most) front text l h = absurd (omega arith)

one_before : (front : List (List ℕ)) (piece : List ℕ) (o : Option (List (List ℕ))) →
    option_map (λ (rest : List (List ℕ)). (front ++ piece ∷ []) ++ rest) o ≡ option_map (λ (rest : List (List ℕ)). front ++ rest) (option_map (λ (rest : List (List ℕ)). piece ∷ rest) o)
one_before front piece None = refl
one_before front piece (Some rest) = ap Some (append_assoc front (piece ∷ []) rest)

first_cut : (most : ℕ) (front : List (List ℕ)) (text : List ℕ) → 0 < length text →
    cut_after (front ++ take (last_cut longest_word text) text ∷ []) most (drop (last_cut longest_word text) text) ≡ cut_after front (suc most) text
unfolding cut_after pieces
first_cut most front [] l = absurd (omega arith)
first_cut most front (b ∷ bs) l = one_before front (take (last_cut longest_word (b ∷ bs)) (b ∷ bs)) (pieces most longest_word (drop (last_cut longest_word (b ∷ bs)) (b ∷ bs)))

pub cut_next : (most left n : ℕ) (front : List (List ℕ)) (text piece after : List ℕ) → 0 < length text → most ≡ suc left →
    last_cut longest_word text ≡ n → piece ≡ take n text → after ≡ drop n text → cut_after (front ++ piece ∷ []) left after ≡ cut_after front most text
cut_next most left n front text piece after l m e p a =
    ap (λ x. cut_after (front ++ x ∷ []) left after) (p ∙ ap (λ k. take k text) (sym e))
    ∙ ap (cut_after (front ++ take (last_cut longest_word text) text ∷ []) left) (a ∙ ap (λ k. drop k text) (sym e))
    ∙ first_cut left front text l
    ∙ ap (λ k. cut_after front k text) (sym m)

pub ruleset cuts = (cut_start, cut_end, cut_full, common_steps)

-- ** words

pub several_strings : (first : List ℕ) (words : List (String Global)) (count : ℕ) → count ≡ length words → first ≡ codes "rc2;" ++ decimal count →
    first ∷ map string_bytes words ≡ several_words (map string_bytes words)
several_strings first words count c e =
    ap (λ x. x ∷ map string_bytes words) (e ∙ ap (λ n. codes "rc2;" ++ decimal n) (c ∙ sym (length-map words (λ (w : String Global). string_bytes w))))

pub ruleset texts = (several_strings, common_steps)

pub written_one : (text : List ℕ) → length text ≤ 99996 → written text ≡ Some (one_word text)
unfolding written
written_one text h = ap (λ (t : Bool). if t then Some (one_word text) else option_map several_words (pieces most_pieces longest_word text))
    (le-leb (length (codes "rc1;" ++ text)) longest_word (omega arith))

written_cut : (text : List ℕ) → 99996 < length text → written text ≡ option_map several_words (pieces most_pieces longest_word text)
unfolding written
written_cut text h = ap (λ (t : Bool). if t then Some (one_word text) else option_map several_words (pieces most_pieces longest_word text))
    (lt-leb (length (codes "rc1;" ++ text)) longest_word (omega arith))

pub written_several : (text : List ℕ) (all : List (List ℕ)) → 99996 < length text → pieces most_pieces longest_word text ≡ Some all → written text ≡ Some (several_words all)
written_several text all h e = written_cut text h ∙ ap (option_map several_words) e

refuses_mapped : {X Y : Type 0} (g : X → Y) (e : ImageError) (o : Option X) → Refuses e o → Refuses e (option_map g o)
refuses_mapped g (error.Fault fault.TooLarge) o h = ap (option_map g) h
refuses_mapped g (error.Fault fault.BadTag) o h = h
refuses_mapped g (error.Fault fault.BadLength) o h = h
refuses_mapped g (error.Fault fault.Trailing) o h = h
refuses_mapped g (error.Fault fault.TooDeep) o h = h
refuses_mapped g (error.Fault fault.Version) o h = h
refuses_mapped g error.NoMemory o h = tt

pub written_refused : (e : ImageError) (text : List ℕ) → 99996 < length text → Refuses e (pieces most_pieces longest_word text) → Refuses e (written text)
written_refused e text h r = subst (Refuses e) (sym (written_cut text h)) (refuses_mapped several_words e (pieces most_pieces longest_word text) r)

pub image_written : (c : Node cmd) (text : List ℕ) → text ≡ node_image c → image_words c ≡ written text
unfolding written
image_written c text e = ap (words_of longest_word) (sym e)

pub ruleset words = (written_one, written_several, written_refused, image_written, common_steps)

-- an image that is short enough is the only word
only_by : (c : Node cmd) (text : List ℕ) (t : Bool) → is_short (image c) ≡ t → (if t then Some (image c) else None) ≡ Some text → image_words c ≡ Some (text ∷ [])
only_by c text true e h =
    ap (λ (t : Bool). if t then Some (one_word (node_image c)) else option_map several_words (pieces most_pieces longest_word (node_image c))) e
    ∙ ap (option_map (λ (x : List ℕ). x ∷ [])) h
only_by c text false e h = absurd (false≢true (ap is_some h))

pub only_word : (c : Node cmd) (text : List ℕ) → short_image c ≡ Some text → image_words c ≡ Some (text ∷ [])
unfolding where_short
only_word c text h = only_by c text (is_short (image c)) refl h

pub ruleset in_one = (only_word, common_steps)
