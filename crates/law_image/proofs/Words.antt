-- Trees and the words in which they are handed over.
use Rattle.std.specs.Prelude.{Option, Some, None, option_map, Result, Ok, Err, IsTrue, codes, take, drop, nat_le, if◌then◌else◌}
use Rattle.std.proofs.Common.{◌≡◌, ℕ, suc, ◌≤◌, List, [], ◌∷◌, ◌++◌, length, Bool, true, false, refl, sym, ap, subst, ◌∙◌, arith, length-append}
use Rattle.std.specs.List.{concat}
use Rattle.std.specs.Str.{bytes_eq}
use Rattle.std.specs.Fmt.{decimal}
use Rattle.std.specs.Cmp.Lexicographic.{pointwise}
use Rattle.std.proofs.Math.Seq.{take-append_seam}
use Rattle.std.proofs.lemmas.Fmt.{digits_value-decimal}
use Rattle.std.proofs.lemmas.List.{take-append-drop, length-take-le}
use Rattle.std.proofs.lemmas.Bool.{and_parts, and_from, leb-true, le-leb}
use Rattle.std.proofs.lemmas.Slice.Eq.{bytes_eq-Decides}
use Rattle.rc_model.specs.Syntax.Text.{begins_with}
use Rattle.rc_model.specs.Syntax.Tree.{Node, cmd}
use Rattle.rc_model.specs.Syntax.WellFormed.{well_formed, is_sound, depth}
use Rattle.rc_model.specs.Run.Numbers.{digits_value, greatest_number}
use Rattle.rc_model.specs.Handed.Pieces.{longest_word, most_pieces, AreWords, in_one, in_pieces, one_word, several_words, pieces, words_of}
use Rattle.rc_model.specs.Handed.Image.{node_image}
use Rattle.rc_model.specs.Handed.TreeSpelling.{Spells}
use Rattle.rc_model.specs.Handed.TreeReading.{read_spelling, read_tree, beginning_fault}
use Rattle.rc_model.specs.Handed.WordsReading.{counted, from_one, are_these, from_pieces, read_pieces}
use Rattle.rc_model.specs.Handed.WordsLaws.{SpellsWords, OneListOfWords, HasWords, OneTreeOfWords, ReadsWords, WordsReadBack}
use Rattle.law_image.proofs.Counts.{own}
use Rattle.law_image.proofs.Exact.{ok_inj, bind_back, if_ok, if_is}
use Rattle.law_image.proofs.OneSpelling.{image_of, spelled}
use Rattle.law_image.proofs.Sizes.{within_of}
use Rattle.law_image.proofs.OneTree.{one_tree}
use Rattle.law_image.proofs.Trees.{reads_spellings, spelling_back, spelling_read}
use Rattle.law_image.proofs.Texts.{text_of}
use Rattle.law_image.proofs.Cuts.{mapped_back, joined_pieces, pieces_room, words_by_rule}
use Rattle.rc_model.specs.declared.fault.ImageFault.{ImageFault}

-- a tree is written in its words and no others
pub one_list_of_words : OneListOfWords
one_list_of_words c words h =
    ap (words_of longest_word) (sym (image_of c h.text h.spelled)) ∙ (words_by_rule longest_word h.text words (text_of c h.text h.spelled).utf8).1 h.cut

-- what is cut into few pieces is not too long to be written
short_by : (text : List ℕ) (t : Bool) → nat_le (length (codes "rc1;" ++ text)) longest_word ≡ t → (words : List (List ℕ))
    → (if t then Some (one_word text) else option_map several_words (pieces most_pieces longest_word text)) ≡ Some words → length text ≤ greatest_number
short_by text true e words h = omega (arith, leb-true (length (codes "rc1;" ++ text)) longest_word e, length-append (codes "rc1;") text)
short_by text false e words h =
    let m = mapped_back several_words (pieces most_pieces longest_word text) words h in
    omega (arith, pieces_room most_pieces longest_word text m.0 m.1)

pub has_words : HasWords
has_words c words t e =
    let short = short_by (node_image c) (nat_le (length (codes "rc1;" ++ node_image c)) longest_word) refl words e in
    let s = spelled c (and_parts (is_sound c) (nat_le (depth c) 200) t.sound).0 t.characters (within_of c greatest_number short) in
    record { text = node_image c; spelled = s; cut = (words_by_rule longest_word (node_image c) words (text_of c (node_image c) s).utf8).0 e }

-- the spelling in words
abbrev spelling_in : List (List ℕ) → List ℕ
spelling_in [] = []
spelling_in (first ∷ rest) = if begins_with (codes "rc1;") first then drop 4 first else concat rest

spelling_is : (limit : ℕ) (text : List ℕ) (words : List (List ℕ)) → AreWords limit text words → text ≡ spelling_in words
spelling_is limit text words (in_one h) = refl
spelling_is limit text words (in_pieces ps h p l) = joined_pieces limit text ps p

pub one_tree_of_words : OneTreeOfWords
one_tree_of_words c d words h k =
    let same : h.text ≡ k.text = spelling_is longest_word h.text words h.cut ∙ sym (spelling_is longest_word k.text words k.cut) in
    one_tree c d (codes "rc1;" ++ h.text)
    (record { front = codes "rc1;"; back = h.text; cut = refl; first = refl; second = h.spelled })
    (record { front = codes "rc1;"; back = k.text; cut = ap (λ z. codes "rc1;" ++ z) same; first = refl; second = k.spelled })

-- ** what is read

texts_equal : (as' bs : List (List ℕ)) → IsTrue (pointwise bytes_eq as' bs) → as' ≡ bs
texts_equal [] [] h = refl
texts_equal [] (b ∷ bs) h = absurd (cc)
texts_equal (a ∷ as') [] h = absurd (cc)
texts_equal (a ∷ as') (b ∷ bs) h =
    let k = and_parts (bytes_eq a b) (pointwise bytes_eq as' bs) h in
    ap (λ z. z ∷ as') ((bytes_eq-Decides a b).0 k.0) ∙ ap (λ z. b ∷ z) (texts_equal as' bs k.1)

itself : (as' : List (List ℕ)) → IsTrue (pointwise bytes_eq as' as')
itself [] = refl
itself (a ∷ as') = and_from (bytes_eq a a) _ ((bytes_eq-Decides a a).1 refl) (itself as')

these_are : (o : Option (List (List ℕ))) (words : List (List ℕ)) → IsTrue (are_these o words) → o ≡ Some words
these_are None words h = absurd (cc)
these_are (Some written) words h = ap (λ z. Some z) (texts_equal written words h)

are_these_of : (o : Option (List (List ℕ))) (words : List (List ℕ)) → o ≡ Some words → IsTrue (are_these o words)
are_these_of o words e = subst (λ z. IsTrue (are_these z words)) (sym e) (itself words)

counted_back : (n : ℕ) (r : Result (Node cmd) ImageFault) (c : Node cmd) (m : ℕ) → counted n r ≡ Ok (c, m) → (r ≡ Ok c) × (n ≡ m)
counted_back n r c m h =
    let k = bind_back r (λ d. Ok (d, n)) (c, m) h in
    let e = ok_inj (k.0, n) (c, m) k.2 in
    (k.1 ∙ ap (λ (z : Node cmd × ℕ). Ok z.0) e, ap (λ (z : Node cmd × ℕ). z.1) e)

-- what is taken spells the tree
record Takes (words : List (List ℕ)) (c : Node cmd) (n : ℕ) : Type 0 where
  enough : n ≤ length words
  spells : SpellsWords c (take n words)
  formed : IsTrue (well_formed c)

one_taken : (first : List ℕ) (rest : List (List ℕ)) (c : Node cmd) (n : ℕ) → from_one longest_word first ≡ Ok (c, n) → Takes (first ∷ rest) c n
one_taken first rest c n h =
    let k = if_ok (nat_le (length first) longest_word) _ _ _ h in
    let t = counted_back 1 (read_tree first) c n k.1 in
    let s = (reads_spellings first c).0 t.0 in
    let e : first ≡ codes "rc1;" ++ s.0.back = s.0.cut ∙ ap (λ z. z ++ s.0.back) s.0.first in
    let l : length (codes "rc1;" ++ s.0.back) ≤ longest_word = subst (λ z. length z ≤ longest_word) e (leb-true (length first) longest_word k.0) in
    subst (Takes (first ∷ rest) c) t.1
    (record {
      enough = omega arith;
      spells = record { text = s.0.back; spelled = s.0.second; cut = subst (λ z. AreWords longest_word s.0.back (z ∷ [])) (sym e) (in_one l) };
      formed = s.1;
    })

taken_again : (k : ℕ) (rest : List (List ℕ)) → take (length (take k rest)) rest ≡ take k rest
taken_again k rest = ap (take (length (take k rest))) (sym (take-append-drop k rest)) ∙ take-append_seam (take k rest) (drop k rest)

pieces_taken : (first : List ℕ) (rest : List (List ℕ)) (k : ℕ) (c : Node cmd) (n : ℕ) → from_pieces longest_word first (take k rest) ≡ Ok (c, n) → Takes (first ∷ rest) c n
pieces_taken first rest k c n h =
    let ps = take k rest in
    let i = if_ok (are_these (words_of longest_word (concat (take k rest))) (first ∷ take k rest)) _ _ _ h in
    let w : words_of longest_word (concat (take k rest)) ≡ Some (first ∷ take k rest) = these_are (words_of longest_word (concat (take k rest))) (first ∷ take k rest) i.0 in
    let t = counted_back (suc (length (take k rest))) (read_spelling (concat (take k rest))) c n i.1 in
    let s = spelling_back (concat (take k rest)) c t.0 in
    let cut = (words_by_rule longest_word (concat (take k rest)) (first ∷ take k rest) (text_of c (concat (take k rest)) s.0).utf8).0 w in
    subst (Takes (first ∷ rest) c) t.1
    (record {
      enough = omega (arith, ap length (take-append-drop k rest), length-append (take k rest) (drop k rest));
      spells = record { text = concat (take k rest); spelled = s.0; cut = subst (λ z. AreWords longest_word (concat (take k rest)) (first ∷ z)) (sym (taken_again k rest)) cut };
      formed = s.1;
    })

by_beginning : (first : List ℕ) (rest : List (List ℕ)) (k : ℕ) (c : Node cmd) (n : ℕ) (one two : Bool)
    → (if one then from_one longest_word first else (if two then from_pieces longest_word first (take k rest) else Err (beginning_fault first))) ≡ Ok (c, n) → Takes (first ∷ rest) c n
by_beginning first rest k c n true two h = one_taken first rest c n h
by_beginning first rest k c n false true h = pieces_taken first rest k c n h
by_beginning first rest k c n false false h = absurd (cc)

taken : (words : List (List ℕ)) (c : Node cmd) (n : ℕ) → read_pieces words ≡ Ok (c, n) → Takes words c n
taken [] c n h = absurd (cc)
taken (first ∷ rest) c n h = by_beginning first rest (digits_value 0 (drop 4 first)) c n (begins_with (codes "rc1;") first) (begins_with (codes "rc2;") first) h

-- the number of pieces is read back
number_back : (n : ℕ) → n ≤ 16 → digits_value 0 (drop 4 (codes "rc2;" ++ decimal n)) ≡ n
number_back n h = digits_value-decimal own n (omega arith)

spelling_counted : (c : Node cmd) (text : List ℕ) (n : ℕ) → Spells c text → IsTrue (well_formed c) → counted n (read_spelling text) ≡ Ok (c, n)
spelling_counted c text n s f = ap (counted n) (spelling_read text c s f)

pub read_again : (c : Node cmd) (text : List ℕ) (words rest : List (List ℕ)) → Spells c text → IsTrue (well_formed c)
    → AreWords longest_word text words → read_pieces (words ++ rest) ≡ Ok (c, length words)
read_again c text words rest s f (in_one h) =
    if_is (nat_le (length (codes "rc1;" ++ text)) longest_word) _ _ (le-leb (length (codes "rc1;" ++ text)) longest_word h) ∙ spelling_counted c text 1 s f
read_again c text words rest s f (in_pieces ps h p l) =
    let utf8 = (text_of c text s).utf8 in
    let e : concat ps ≡ text = sym (joined_pieces longest_word text ps p) in
    let w : words_of longest_word (concat ps) ≡ Some (several_words ps) = ap (words_of longest_word) e ∙ (words_by_rule longest_word text (several_words ps) utf8).1 (in_pieces ps h p l) in
    ap (λ k. from_pieces longest_word (codes "rc2;" ++ decimal (length ps)) (take k (ps ++ rest))) (number_back (length ps) l)
    ∙ ap (λ z. from_pieces longest_word (codes "rc2;" ++ decimal (length ps)) z) (take-append_seam ps rest)
    ∙ if_is (are_these (words_of longest_word (concat ps)) (several_words ps)) _ _ (are_these_of (words_of longest_word (concat ps)) (several_words ps) w)
    ∙ ap (λ z. counted (suc (length ps)) (read_spelling z)) e ∙ spelling_counted c text (suc (length ps)) s f

pub reads_words : ReadsWords
reads_words words c n = (
  λ h. let t = taken words c n h in (t.enough, t.spells, t.formed),
  λ h.
      ap read_pieces (sym (take-append-drop n words))
      ∙ read_again c h.1.text (take n words) (drop n words) h.1.spelled h.2 h.1.cut
      ∙ ap (λ z. Ok (c, z)) (length-take-le n words h.0),
)

pub words_read_back : WordsReadBack
words_read_back c words rest t e = let h = has_words c words t e in read_again c h.text words rest h.spelled t.sound h.cut
