-- What spells a tree is text, and so are the texts of the tree.
use Rattle.std.specs.Prelude.{IsTrue, codes}
use Rattle.std.proofs.Common.{◌≡◌, ℕ, zero, suc, ◌+◌, ◌<◌, List, [], ◌∷◌, get_or, Bool, true, false, refl, sym, subst, arith}
use Rattle.std.specs.List.{list_all}
use Rattle.std.specs.Str.{is_utf8, chars, IsUtf8}
use lib.Utf8.{encode}
use Rattle.std.proofs.lemmas.Str.{IsUtf8-append, IsUtf8-nil, IsUtf8-from_ascii, IsUtf8-from_is_utf8}
use Rattle.std.proofs.lemmas.Bool.{and_parts, and_from, leb-true}
use Rattle.std.specs.Prelude.{nat_le}
use Rattle.rc_model.specs.declared.call.Mode.{Mode}
use Rattle.rc_model.specs.declared.call.Mode.TheVariants.{Read, Write, Append}
use Rattle.rc_model.specs.declared.syntax.Logic.{Logic}
use Rattle.rc_model.specs.declared.syntax.Logic.TheVariants.{And, Or}
use Rattle.rc_model.specs.Run.Numbers.{is_digit}
use Rattle.rc_model.specs.Syntax.Text.{without_zero}
use Rattle.rc_model.specs.Syntax.Tree.{Sort, Node, Many, none, more, count}
use Rattle.rc_model.specs.Syntax.Tree as t
use Rattle.rc_model.specs.Handed.Image.{literal_mark, item_mark, logic_mark}
use Rattle.rc_model.specs.Handed.TreeSpelling.{◌⨾◌, Is, Output, Crossing, Texted, Listed, Opened, Spells, SpellsAll, all_in_many, has_characters}
use Rattle.law_image.proofs.OneSpelling.{output_cases, copies_small}

-- an ASCII byte, and several
pub ascii : (b : ℕ) → b < 128 → IsUtf8 (b ∷ [])
ascii b h = IsUtf8-from_ascii (b ∷ []) at
  where
    at : (i : ℕ) → get_or (b ∷ []) i 0 < 128
    at zero = h
    at (suc i) = omega arith

digits_utf8 : (ds : List ℕ) → IsTrue (list_all is_digit ds) → IsUtf8 ds
digits_utf8 [] h = IsUtf8-nil
digits_utf8 (d ∷ ds) h =
    let k = and_parts (is_digit d) (list_all is_digit ds) h in
    let m = and_parts (nat_le 48 d) (nat_le d 57) k.0 in
    IsUtf8-append (d ∷ []) ds (ascii d (omega (arith, leb-true d 57 m.1))) (digits_utf8 ds k.1)

mark : (m text : List ℕ) → IsTrue (is_utf8 m) → text ≡ m → IsUtf8 text
mark m text h e = subst IsUtf8 (sym e) (IsUtf8-from_is_utf8 m h)

joined : {P Q : List ℕ → Type 0} {text : List ℕ} (j : (P ⨾ Q) text) → IsUtf8 j.front → IsUtf8 j.back → IsUtf8 text
joined j u v = subst IsUtf8 (sym j.cut) (IsUtf8-append j.front j.back u v)

-- what follows a mark
marked : {Q : List ℕ → Type 0} {m text : List ℕ} (j : (Is m ⨾ Q) text) → IsTrue (is_utf8 m) → IsUtf8 j.back → IsUtf8 text
marked {m = m} j h u = joined j (mark m j.front h j.first) u

listed : {P : List ℕ → Type 0} {text : List ℕ} (n : ℕ) (j : Listed n P text) → IsUtf8 j.back → IsUtf8 text
unfolding is_utf8 chars encode
listed n j u = joined j (joined j.first (digits_utf8 j.first.front j.first.first.digits) (mark (codes ",") j.first.back refl j.first.second)) u

texted : (x text : List ℕ) → Texted x text → IsTrue (is_utf8 x) × IsUtf8 text
unfolding is_utf8 chars encode
texted x text h =
    let j = h.spelled in
    let k = and_parts (is_utf8 x) (without_zero x) h.characters in
    (k.0, joined j (joined j.first (digits_utf8 j.first.front j.first.first.digits) (mark (codes ":") j.first.back refl j.first.second)) (subst IsUtf8 (sym j.second) (IsUtf8-from_is_utf8 x k.0)))

output : (n : ℕ) (text : List ℕ) → Output n text → IsUtf8 text
output n text h = subst IsUtf8 (sym h.digit) (ascii (48 + n) (omega (arith, output_cases n h.number)))

crossing : (to from : ℕ) (text : List ℕ) → Crossing to from text → IsUtf8 text
crossing to from text h =
    let k = copies_small to from h.numbers in
    subst IsUtf8 (sym h.digits) (IsUtf8-append ((48 + to) ∷ []) ((48 + from) ∷ []) (ascii (48 + to) (omega (arith, k.0))) (ascii (48 + from) (omega (arith, k.1))))

-- a tree, and several
pub record IsText {s : Sort} (x : Node s) (text : List ℕ) : Type 0 where
  pub utf8 : IsUtf8 text
  pub characters : IsTrue (has_characters x)

record AreTexts {s : Sort} (xs : Many s) (text : List ℕ) : Type 0 where
  utf8 : IsUtf8 text
  characters : IsTrue (all_in_many is_utf8 (λ n. true) xs)

opened : (mode : Mode) (slot : ℕ) {path : List ℕ → Type 0} (text : List ℕ) → Opened mode slot path text → (back : List ℕ) × path back × (IsUtf8 back → IsUtf8 text)
unfolding is_utf8 chars encode
opened Read slot text j = (j.back, j.second.rest, λ u. marked j refl u)
opened Write slot text j = (j.second.back, j.second.second, λ u. marked j refl (joined j.second (output slot j.second.front j.second.first) u))
opened Append slot text j = (j.second.back, j.second.second, λ u. marked j refl (joined j.second (output slot j.second.front j.second.first) u))

word_mark : (quoted : Bool) → IsTrue (is_utf8 (literal_mark quoted))
unfolding is_utf8 chars encode
word_mark true = refl
word_mark false = refl

background_mark : (background : Bool) → IsTrue (is_utf8 (item_mark background))
unfolding is_utf8 chars encode
background_mark true = refl
background_mark false = refl

link_mark : (logic : Logic) → IsTrue (is_utf8 (logic_mark logic))
unfolding is_utf8 chars encode
link_mark And = refl
link_mark Or = refl

mutual
  unfolding is_utf8 chars encode

  pub text_of : {s : Sort} (x : Node s) (text : List ℕ) → Spells x text → IsText x text
  text_of t.Empty text e = record { utf8 = mark (codes "e") text refl e; characters = refl }
  text_of (t.Seq items) text j = let a = texts_of items j.second.back j.second.second in record { utf8 = marked j refl (listed (count items) j.second a.utf8); characters = a.characters }
  text_of (t.Simple words) text j = let a = texts_of words j.second.back j.second.second in record { utf8 = marked j refl (listed (count words) j.second a.utf8); characters = a.characters }
  text_of (t.Assign pairs body) text j =
      let a = texts_of pairs j.second.first.back j.second.first.second in
      let b = text_of body j.second.back j.second.second in
      record { utf8 = marked j refl (joined j.second (listed (count pairs) j.second.first a.utf8) (b.utf8)); characters = and_from _ _ a.characters b.characters }
  text_of (t.Redirect redirs body) text j =
      let a = texts_of redirs j.second.first.back j.second.first.second in
      let b = text_of body j.second.back j.second.second in
      record { utf8 = marked j refl (joined j.second (listed (count redirs) j.second.first a.utf8) (b.utf8)); characters = and_from _ _ a.characters b.characters }
  text_of (t.Pipeline stages last) text j =
      let a = texts_of stages j.second.first.back j.second.first.second in
      let b = text_of last j.second.back j.second.second in
      record { utf8 = marked j refl (joined j.second (listed (count stages) j.second.first a.utf8) (b.utf8)); characters = and_from _ _ a.characters b.characters }
  text_of (t.AndOr first links) text j =
      let a = text_of first j.second.front j.second.first in
      let b = texts_of links j.second.second.back j.second.second.second in
      record { utf8 = marked j refl (joined j.second (a.utf8) (listed (count links) j.second.second b.utf8)); characters = and_from _ _ a.characters b.characters }
  text_of (t.Not body) text j = let a = text_of body j.back j.second in record { utf8 = marked j refl (a.utf8); characters = a.characters }
  text_of (t.Subshell body) text j = let a = text_of body j.back j.second in record { utf8 = marked j refl (a.utf8); characters = a.characters }
  text_of (t.If condition body) text j =
      let a = text_of condition j.second.front j.second.first in
      let b = text_of body j.second.back j.second.second in
      record { utf8 = marked j refl (joined j.second (a.utf8) (b.utf8)); characters = and_from _ _ a.characters b.characters }
  text_of (t.IfNot body) text j = let a = text_of body j.back j.second in record { utf8 = marked j refl (a.utf8); characters = a.characters }
  text_of (t.While condition body) text j =
      let a = text_of condition j.second.front j.second.first in
      let b = text_of body j.second.back j.second.second in
      record { utf8 = marked j refl (joined j.second (a.utf8) (b.utf8)); characters = and_from _ _ a.characters b.characters }
  text_of (t.ForAll name body) text j =
      let a = text_of name j.second.front j.second.first in
      let b = text_of body j.second.back j.second.second in
      record { utf8 = marked j refl (joined j.second (a.utf8) (b.utf8)); characters = and_from _ _ a.characters b.characters }
  text_of (t.For name words body) text j =
      let a = text_of name j.second.front j.second.first in
      let b = texts_of words j.second.second.first.back j.second.second.first.second in
      let c = text_of body j.second.second.back j.second.second.second in
      record {
        utf8 = marked j refl (joined j.second (a.utf8) (joined j.second.second (listed (count words) j.second.second.first b.utf8) (c.utf8)));
        characters = and_from _ _ a.characters (and_from _ _ b.characters c.characters);
      }
  text_of (t.Switch subject branches) text j =
      let a = text_of subject j.second.front j.second.first in
      let b = texts_of branches j.second.second.back j.second.second.second in
      record { utf8 = marked j refl (joined j.second (a.utf8) (listed (count branches) j.second.second b.utf8)); characters = and_from _ _ a.characters b.characters }
  text_of (t.Match subject patterns) text j =
      let a = text_of subject j.second.front j.second.first in
      let b = texts_of patterns j.second.second.back j.second.second.second in
      record { utf8 = marked j refl (joined j.second (a.utf8) (listed (count patterns) j.second.second b.utf8)); characters = and_from _ _ a.characters b.characters }
  text_of (t.Define names body) text j =
      let a = texts_of names j.second.first.back j.second.first.second in
      let b = text_of body j.second.back j.second.second in
      record { utf8 = marked j refl (joined j.second (listed (count names) j.second.first a.utf8) (b.utf8)); characters = and_from _ _ a.characters b.characters }
  text_of (t.Undefine names) text j = let a = texts_of names j.second.back j.second.second in record { utf8 = marked j refl (listed (count names) j.second a.utf8); characters = a.characters }
  text_of (t.Brace body) text j = let a = text_of body j.back j.second in record { utf8 = marked j refl (a.utf8); characters = a.characters }
  text_of (t.Lit x quoted) text j = let w = texted x j.back j.second in record { utf8 = marked j (word_mark quoted) w.1; characters = w.0 }
  text_of (t.Concat parts) text j = let a = texts_of parts j.second.back j.second.second in record { utf8 = marked j refl (listed (count parts) j.second a.utf8); characters = a.characters }
  text_of (t.Paren words) text j = let a = texts_of words j.second.back j.second.second in record { utf8 = marked j refl (listed (count words) j.second a.utf8); characters = a.characters }
  text_of (t.Var name) text j = let a = text_of name j.back j.second in record { utf8 = marked j refl (a.utf8); characters = a.characters }
  text_of (t.Count name) text j = let a = text_of name j.back j.second in record { utf8 = marked j refl (a.utf8); characters = a.characters }
  text_of (t.Flat name) text j = let a = text_of name j.back j.second in record { utf8 = marked j refl (a.utf8); characters = a.characters }
  text_of (t.Sub name subscripts) text j =
      let a = text_of name j.second.front j.second.first in
      let b = texts_of subscripts j.second.second.back j.second.second.second in
      record { utf8 = marked j refl (joined j.second (a.utf8) (listed (count subscripts) j.second.second b.utf8)); characters = and_from _ _ a.characters b.characters }
  text_of (t.Back body) text j = let a = text_of body j.back j.second in record { utf8 = marked j refl (a.utf8); characters = a.characters }
  text_of (t.Item body background) text j = let a = text_of body j.back j.second in record { utf8 = marked j (background_mark background) a.utf8; characters = a.characters }
  text_of (t.Pair name value) text j =
      let a = text_of name j.front j.first in let b = text_of value j.back j.second in record { utf8 = joined j a.utf8 b.utf8; characters = and_from _ _ a.characters b.characters }
  text_of (t.Stage body slot) text j = let a = text_of body j.back j.second in record { utf8 = joined j (output slot j.front j.first) a.utf8; characters = a.characters }
  text_of (t.Link logic body) text j = let a = text_of body j.back j.second in record { utf8 = marked j (link_mark logic) a.utf8; characters = a.characters }
  text_of (t.Branch patterns body) text j =
      let a =
      texts_of patterns j.first.back j.first.second in let b = text_of body j.back j.second in record
      { utf8 = joined j (listed (count patterns) j.first a.utf8) b.utf8; characters = and_from _ _ a.characters b.characters }
  text_of (t.Open mode slot path) text j = let o = opened mode slot {path = Spells path} text j in let a = text_of path o.0 o.1 in record { utf8 = o.2 a.utf8; characters = a.characters }
  text_of (t.Copy to from) text j = record { utf8 = marked j refl (crossing to from j.back j.second); characters = refl }
  text_of (t.Here pieces) text j = let a = texts_of pieces j.second.back j.second.second in record { utf8 = marked j refl (listed (count pieces) j.second a.utf8); characters = a.characters }
  text_of (t.Text x) text j = let w = texted x j.back j.second in record { utf8 = marked j refl w.1; characters = w.0 }
  text_of (t.Name x) text j = let w = texted x j.back j.second in record { utf8 = marked j refl w.1; characters = w.0 }

  texts_of : {s : Sort} (xs : Many s) (text : List ℕ) → SpellsAll xs text → AreTexts xs text
  texts_of none text e = record { utf8 = subst IsUtf8 (sym e) IsUtf8-nil; characters = refl }
  texts_of (more x xs) text j =
      let a = text_of x j.front j.first in let b = texts_of xs j.back j.second in record { utf8 = joined j a.utf8 b.utf8; characters = and_from _ _ a.characters b.characters }
