-- Trees and their texts.
use Rattle.std.specs.Prelude.{Result, Ok, Err, IsTrue, codes, drop, nat_le, ◌==◌}
use Rattle.std.proofs.Common.{◌≡◌, ℕ, ◌≤◌, List, [], ◌∷◌, ◌++◌, length, refl, sym, ap, subst, ◌∙◌, append-nil, arith}
use Rattle.std.proofs.lemmas.Bool.{and_parts, and_from, leb-true, le-leb, eqb-true, false≢true}
use Rattle.rc_model.specs.Syntax.Text.{begins_with}
use Rattle.rc_model.specs.Syntax.Tree.{Node, cmd}
use Rattle.rc_model.specs.Handed.Image.{image, node_image}
use Rattle.rc_model.specs.Syntax.WellFormed.{well_formed, is_sound, depth}
use Rattle.rc_model.specs.Handed.TreeSpelling.{Spells, SpellsImage}
use Rattle.rc_model.specs.Handed.TreeReading.{read_spelling, read_tree, whole, cmd_at}
use Rattle.rc_model.specs.Handed.TreeLaws.{OneSpelling, HasSpelling, ReadsSpellings, TreesReadBack}
use Rattle.law_image.proofs.Exact.{ok_inj, if_ok}
use Rattle.law_image.proofs.Levels.{cmd_exact}
use Rattle.law_image.proofs.Sound.{fits_of, sound_of, Sound}
use Rattle.law_image.proofs.OneSpelling.{joins, image_of, mark, spelled}
use Rattle.rc_model.specs.declared.fault.ImageFault.{ImageFault}

pub one_spelling : OneSpelling
one_spelling c text j = joins j (codes "rc1;") (node_image c) j.first (image_of c j.back j.second)

pub has_spelling : HasSpelling
has_spelling c h u w = mark (codes "rc1;") (node_image c) (spelled c (and_parts (is_sound c) (nat_le (depth c) 200) h).0 u w)

pub begins_back : (bs text : List ℕ) → IsTrue (begins_with bs text) → text ≡ bs ++ drop (length bs) text
begins_back [] text h = refl
begins_back (b ∷ bs) [] h = absurd (false≢true h)
begins_back (b ∷ bs) (c ∷ text) h =
    let k = and_parts (b == c) (begins_with bs text) h in
    ap (λ z. z ∷ text) (sym (eqb-true b c k.0)) ∙ ap (λ z. b ∷ z) (begins_back bs text k.1)

empty_of : (xs : List ℕ) → IsTrue (length xs == 0) → xs ≡ []
empty_of [] h = refl
empty_of (x ∷ xs) h = absurd (omega (arith, eqb-true (length (x ∷ xs)) 0 h))

whole_back : (m : Result (Node cmd × List ℕ) ImageFault) (c : Node cmd) → whole m ≡ Ok c → m ≡ Ok (c, [])
whole_back (Ok x) c h =
    let k = if_ok (length x.1 == 0) _ _ _ h in
    ap (λ z. Ok (x.0, z)) (empty_of x.1 k.0) ∙ ap (λ z. Ok (z, [])) (ok_inj _ _ k.1)
whole_back (Err e) c h = absurd (cc)

-- for any number of levels, so that none of them is unfolded
found_back : (d : ℕ) (text : List ℕ) (c : Node cmd) → cmd_at d text ≡ Ok (c, []) → Spells c text × Sound c d
found_back d text c h =
    let f = (cmd_exact d).only text c [] h in
    let s = subst (Spells c) (sym (f.cut ∙ append-nil f.text)) f.spelled in
    (s, sound_of c d text s f.fine)

read_back : (d : ℕ) (c : Node cmd) (text : List ℕ) → Spells c text → IsTrue (is_sound c) → depth c ≤ d → whole (cmd_at d text) ≡ Ok c
read_back d c text s h l = ap (λ z. whole (cmd_at d z)) (sym (append-nil text)) ∙ ap whole ((cmd_exact d).accepts c text [] s (fits_of c d h l))

pub spelling_back : (text : List ℕ) (c : Node cmd) → read_spelling text ≡ Ok c → Spells c text × IsTrue (well_formed c)
spelling_back text c h =
    let f = found_back 200 text c (whole_back _ c h) in
    (f.0, and_from (is_sound c) _ f.1.sound (le-leb (depth c) 200 f.1.deep))

pub spelling_read : (text : List ℕ) (c : Node cmd) → Spells c text → IsTrue (well_formed c) → read_spelling text ≡ Ok c
spelling_read text c s h =
    let k = and_parts (is_sound c) (nat_le (depth c) 200) h in
    read_back 200 c text s k.0 (leb-true (depth c) 200 k.1)

only_spellings : (text : List ℕ) (c : Node cmd) → read_tree text ≡ Ok c → SpellsImage c text × IsTrue (well_formed c)
only_spellings text c h =
    let k = if_ok (begins_with (codes "rc1;") text) _ _ _ h in
    let f = spelling_back (drop 4 text) c k.1 in
    (record { front = codes "rc1;"; back = drop 4 text; cut = begins_back (codes "rc1;") text k.0; first = refl; second = f.0 }, f.1)

all_spellings : (text : List ℕ) (c : Node cmd) → SpellsImage c text × IsTrue (well_formed c) → read_tree text ≡ Ok c
all_spellings text c h =
    let j = h.0 in
    ap read_tree (j.cut ∙ ap (λ z. z ++ j.back) j.first) ∙ spelling_read j.back c j.second h.1

pub reads_spellings : ReadsSpellings
reads_spellings text c = (only_spellings text c, all_spellings text c)

pub trees_read_back : TreesReadBack
trees_read_back c h u w = all_spellings (image c) c (has_spelling c h u w, h)
