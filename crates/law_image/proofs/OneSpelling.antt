-- A tree has one spelling, which is the one that is written.
use Rattle.std.specs.Prelude.{IsTrue, codes, nat_le}
use Rattle.std.proofs.Common.{◌≡◌, ℕ, ◌+◌, ◌≤◌, ◌<◌, List, [], ◌∷◌, ◌++◌, length, Bool, ◌&&◌, ◌||◌, refl, sym, ap, ◌∙◌, append_assoc, arith}
use Rattle.std.specs.Str.{is_utf8}
use Rattle.std.specs.Fmt.{decimal}
use Rattle.std.proofs.lemmas.Fmt.{decimal_digit}
use Rattle.std.proofs.lemmas.Bool.{and_parts, and_from, leb-true, eqb-true}
use Rattle.std.proofs.lemmas.Bool.Decides.{nat_tests}
use Rattle.rc_model.specs.Run.Numbers.{greatest_number}
use Rattle.rc_model.specs.declared.call.Mode.{Mode}
use Rattle.rc_model.specs.declared.call.Mode.TheVariants.{Read, Write, Append}
use Rattle.rc_model.specs.Syntax.Text.{without_zero}
use Rattle.rc_model.specs.Syntax.Tree.{Sort, Node, Many, none, more, count}
use Rattle.rc_model.specs.Syntax.Tree as t
use Rattle.rc_model.specs.Handed.Image.{node_image, many_image, list_image, text_image, literal_mark, opening_mark}
use Rattle.rc_model.specs.Syntax.WellFormed.{is_sound, are_sound, is_output, opens, copies, has_text, has_some, has_several, has_stages}
use Rattle.rc_model.specs.Handed.TreeSpelling.{◌⨾◌, Is, Number, Output, Crossing, Texted, Listed, Opened, Spells, SpellsAll, all_in, all_in_many, has_characters, within}
use Rattle.rc_model.specs.Handed.TreeReading.{any}
use Rattle.law_image.proofs.Counts.{number_is, number_of_decimal}

pub joins : {P Q : List ℕ → Type 0} {text : List ℕ} (j : (P ⨾ Q) text) (a b : List ℕ) → j.front ≡ a → j.back ≡ b → text ≡ a ++ b
joins j a b p q = j.cut ∙ ap (λ z. z ++ j.back) p ∙ ap (λ z. a ++ z) q

listing_is : (n mark : ℕ) {P : List ℕ → Type 0} {text : List ℕ} (j : ((Number n ⨾ Is (mark ∷ [])) ⨾ P) text) (b : List ℕ) → j.back ≡ b → text ≡ decimal n ++ mark ∷ b
listing_is n mark j b q =
    joins j (decimal n ++ (mark ∷ [])) b (joins j.first (decimal n) (mark ∷ []) (number_is n j.first.front j.first.first) j.first.second) q
    ∙ append_assoc (decimal n) (mark ∷ []) b

listed_is : (n : ℕ) {P : List ℕ → Type 0} {text : List ℕ} (j : Listed n P text) (b : List ℕ) → j.back ≡ b → text ≡ list_image n b
listed_is n j b q = listing_is n 44 j b q

texted_is : (x text : List ℕ) → Texted x text → text ≡ text_image x
texted_is x text h = listing_is (length x) 58 h.spelled x h.spelled.second

pub output_cases : (n : ℕ) → IsTrue (is_output n) → n < 10
output_cases n h = grind (arith, nat_tests)

output_is : (n : ℕ) (text : List ℕ) → Output n text → text ≡ decimal n
output_is n text h = h.digit ∙ sym (decimal_digit n (output_cases n h.number))

pub copies_small : (to from : ℕ) → IsTrue (copies to from) → (to < 10) × (from < 10)
copies_small to from h = (grind (arith, nat_tests), grind (arith, nat_tests))

crossing_is : (to from : ℕ) (text : List ℕ) → Crossing to from text → text ≡ decimal to ++ decimal from
crossing_is to from text h =
    let k = copies_small to from h.numbers in
    h.digits ∙ sym (ap (λ z. z ++ decimal from) (decimal_digit to k.0) ∙ ap (λ z. (48 + to) ∷ z) (decimal_digit from k.1))

opened_is : (mode : Mode) (slot : ℕ) (path : List ℕ → Type 0) (text b : List ℕ) → Opened mode slot path text → ((back : List ℕ) → path back → back ≡ b) → text ≡ opening_mark mode slot ++ b
opened_is Read slot path text b j f = joins j (codes "<") b j.first (f j.back j.second.rest)
opened_is Write slot path text b j f =
    joins j (codes ">") (decimal slot ++ b) j.first
    (joins j.second (decimal slot) b (output_is slot j.second.front j.second.first) (f j.second.back j.second.second))
opened_is Append slot path text b j f =
    joins j (codes "+") (decimal slot ++ b) j.first
    (joins j.second (decimal slot) b (output_is slot j.second.front j.second.first) (f j.second.back j.second.second))

mutual
  unfolding node_image many_image

  pub image_of : {s : Sort} (x : Node s) (text : List ℕ) → Spells x text → text ≡ node_image x
  image_of t.Empty text j = j
  image_of (t.Seq items) text j =
      joins j _ ((list_image (count items) (many_image items))) j.first
      (listed_is (count items) j.second (many_image items) (images_of items j.second.back j.second.second))
  image_of (t.Simple words) text j =
      joins j _ ((list_image (count words) (many_image words))) j.first
      (listed_is (count words) j.second (many_image words) (images_of words j.second.back j.second.second))
  image_of (t.Assign pairs body) text j =
      joins j _ ((list_image (count pairs) (many_image pairs)) ++ (node_image body)) j.first
      (joins j.second (list_image (count pairs) (many_image pairs)) ((node_image body))
      (listed_is (count pairs) j.second.first (many_image pairs) (images_of pairs j.second.first.back j.second.first.second))
      (image_of body j.second.back j.second.second))
  image_of (t.Redirect redirs body) text j =
      joins j _ ((list_image (count redirs) (many_image redirs)) ++ (node_image body)) j.first
      (joins j.second (list_image (count redirs) (many_image redirs)) ((node_image body))
      (listed_is (count redirs) j.second.first (many_image redirs) (images_of redirs j.second.first.back j.second.first.second))
      (image_of body j.second.back j.second.second))
  image_of (t.Pipeline stages last) text j =
      joins j _ ((list_image (count stages) (many_image stages)) ++ (node_image last)) j.first
      (joins j.second (list_image (count stages) (many_image stages)) ((node_image last))
      (listed_is (count stages) j.second.first (many_image stages) (images_of stages j.second.first.back j.second.first.second))
      (image_of last j.second.back j.second.second))
  image_of (t.AndOr first links) text j =
      joins j _ ((node_image first) ++ (list_image (count links) (many_image links))) j.first
      (joins j.second (node_image first) ((list_image (count links) (many_image links))) (image_of first j.second.front j.second.first)
      (listed_is (count links) j.second.second (many_image links) (images_of links j.second.second.back j.second.second.second)))
  image_of (t.Not body) text j = joins j _ ((node_image body)) j.first (image_of body j.back j.second)
  image_of (t.Subshell body) text j = joins j _ ((node_image body)) j.first (image_of body j.back j.second)
  image_of (t.If condition body) text j =
      joins j _ ((node_image condition) ++ (node_image body)) j.first
      (joins j.second (node_image condition) ((node_image body)) (image_of condition j.second.front j.second.first) (image_of body j.second.back j.second.second))
  image_of (t.IfNot body) text j = joins j _ ((node_image body)) j.first (image_of body j.back j.second)
  image_of (t.While condition body) text j =
      joins j _ ((node_image condition) ++ (node_image body)) j.first
      (joins j.second (node_image condition) ((node_image body)) (image_of condition j.second.front j.second.first) (image_of body j.second.back j.second.second))
  image_of (t.ForAll name body) text j =
      joins j _ ((node_image name) ++ (node_image body)) j.first
      (joins j.second (node_image name) ((node_image body)) (image_of name j.second.front j.second.first) (image_of body j.second.back j.second.second))
  image_of (t.For name words body) text j =
      joins j _ ((node_image name) ++ ((list_image (count words) (many_image words)) ++ (node_image body))) j.first
      (joins j.second (node_image name) ((list_image (count words) (many_image words)) ++ (node_image body))
      (image_of name j.second.front j.second.first)
      (joins j.second.second (list_image (count words) (many_image words)) ((node_image body))
      (listed_is (count words) j.second.second.first (many_image words) (images_of words j.second.second.first.back j.second.second.first.second))
      (image_of body j.second.second.back j.second.second.second)))
  image_of (t.Switch subject branches) text j =
      joins j _ ((node_image subject) ++ (list_image (count branches) (many_image branches))) j.first
      (joins j.second (node_image subject) ((list_image (count branches) (many_image branches))) (image_of subject j.second.front j.second.first)
      (listed_is (count branches) j.second.second (many_image branches) (images_of branches j.second.second.back j.second.second.second)))
  image_of (t.Match subject patterns) text j =
      joins j _ ((node_image subject) ++ (list_image (count patterns) (many_image patterns))) j.first
      (joins j.second (node_image subject) ((list_image (count patterns) (many_image patterns))) (image_of subject j.second.front j.second.first)
      (listed_is (count patterns) j.second.second (many_image patterns) (images_of patterns j.second.second.back j.second.second.second)))
  image_of (t.Define names body) text j =
      joins j _ ((list_image (count names) (many_image names)) ++ (node_image body)) j.first
      (joins j.second (list_image (count names) (many_image names)) ((node_image body))
      (listed_is (count names) j.second.first (many_image names) (images_of names j.second.first.back j.second.first.second))
      (image_of body j.second.back j.second.second))
  image_of (t.Undefine names) text j =
      joins j _ ((list_image (count names) (many_image names))) j.first
      (listed_is (count names) j.second (many_image names) (images_of names j.second.back j.second.second))
  image_of (t.Brace body) text j = joins j _ ((node_image body)) j.first (image_of body j.back j.second)
  image_of (t.Concat parts) text j =
      joins j _ ((list_image (count parts) (many_image parts))) j.first
      (listed_is (count parts) j.second (many_image parts) (images_of parts j.second.back j.second.second))
  image_of (t.Paren words) text j =
      joins j _ ((list_image (count words) (many_image words))) j.first
      (listed_is (count words) j.second (many_image words) (images_of words j.second.back j.second.second))
  image_of (t.Var name) text j = joins j _ ((node_image name)) j.first (image_of name j.back j.second)
  image_of (t.Count name) text j = joins j _ ((node_image name)) j.first (image_of name j.back j.second)
  image_of (t.Flat name) text j = joins j _ ((node_image name)) j.first (image_of name j.back j.second)
  image_of (t.Sub name subscripts) text j =
      joins j _ ((node_image name) ++ (list_image (count subscripts) (many_image subscripts))) j.first
      (joins j.second (node_image name) ((list_image (count subscripts) (many_image subscripts))) (image_of name j.second.front j.second.first)
      (listed_is (count subscripts) j.second.second (many_image subscripts) (images_of subscripts j.second.second.back j.second.second.second)))
  image_of (t.Back body) text j = joins j _ ((node_image body)) j.first (image_of body j.back j.second)
  image_of (t.Item body background) text j = joins j _ ((node_image body)) j.first (image_of body j.back j.second)
  image_of (t.Pair name value) text j = (joins j (node_image name) ((node_image value)) (image_of name j.front j.first) (image_of value j.back j.second))
  image_of (t.Stage body slot) text j = joins j (decimal slot) ((node_image body)) (output_is slot j.front j.first) (image_of body j.back j.second)
  image_of (t.Link logic body) text j = joins j _ ((node_image body)) j.first (image_of body j.back j.second)
  image_of (t.Branch patterns body) text j =
      (joins j (list_image (count patterns) (many_image patterns)) ((node_image body))
      (listed_is (count patterns) j.first (many_image patterns) (images_of patterns j.first.back j.first.second)) (image_of body j.back j.second))
  image_of (t.Open mode slot path) text j = opened_is mode slot (Spells path) text (node_image path) j (λ back h. image_of path back h)
  image_of (t.Here pieces) text j =
      joins j _ ((list_image (count pieces) (many_image pieces))) j.first
      (listed_is (count pieces) j.second (many_image pieces) (images_of pieces j.second.back j.second.second))
  image_of (t.Lit x quoted) text j = joins j (literal_mark quoted) (text_image x) j.first (texted_is x j.back j.second)
  image_of (t.Copy to from) text j = joins j (codes "=") (decimal to ++ decimal from) j.first (crossing_is to from j.back j.second)
  image_of (t.Text x) text j = joins j (codes "t") (text_image x) j.first (texted_is x j.back j.second)
  image_of (t.Name x) text j = joins j (codes "v") (text_image x) j.first (texted_is x j.back j.second)

  images_of : {s : Sort} (ns : Many s) (text : List ℕ) → SpellsAll ns text → text ≡ many_image ns
  images_of none text j = j
  images_of (more n ns) text j = joins j (node_image n) (many_image ns) (image_of n j.front j.first) (images_of ns j.back j.second)

-- and it is one, where its numbers can be said
put : {P Q : List ℕ → Type 0} (a b : List ℕ) → P a → Q b → (P ⨾ Q) (a ++ b)
put a b p q = record { front = a; back = b; cut = refl; first = p; second = q }

pub mark : {P : List ℕ → Type 0} (a b : List ℕ) → P b → (Is a ⨾ P) (a ++ b)
mark a b q = record { front = a; back = b; cut = refl; first = refl; second = q }

listing : (n m : ℕ) {P : List ℕ → Type 0} (b : List ℕ) → n ≤ greatest_number → P b → ((Number n ⨾ Is (m ∷ [])) ⨾ P) (decimal n ++ m ∷ b)
listing n m b h q = record { front = decimal n ++ (m ∷ []); back = b; cut = sym (append_assoc (decimal n) (m ∷ []) b); first = put (decimal n) (m ∷ []) (number_of_decimal n h) refl; second = q }

abbrev size : ℕ → Bool
size n = nat_le n greatest_number

abbrev short : List ℕ → Bool
short text = nat_le (length text) greatest_number

texted : (x : List ℕ) → IsTrue (without_zero x) → IsTrue (is_utf8 x) → IsTrue (short x) → Texted x (text_image x)
texted x z u h = record { characters = and_from (is_utf8 x) _ u z; spelled = listing (length x) 58 x (leb-true (length x) greatest_number h) refl }

output : (n : ℕ) → IsTrue (is_output n) → Output n (decimal n)
output n h = record { number = h; digit = decimal_digit n (output_cases n h) }

crossing : (to from : ℕ) → IsTrue (copies to from) → Crossing to from (decimal to ++ decimal from)
crossing to from h =
    let k = copies_small to from h in
    record { numbers = h; digits = ap (λ z. z ++ decimal from) (decimal_digit to k.0) ∙ ap (λ z. (48 + to) ∷ z) (decimal_digit from k.1) }

opened : (mode : Mode) (slot : ℕ) (path : List ℕ → Type 0) (b : List ℕ) → IsTrue (opens mode slot) → path b → Opened mode slot path (opening_mark mode slot ++ b)
opened Read slot path b h p = mark (codes "<") b (record { input = eqb-true slot 0 h; rest = p })
opened Write slot path b h p = mark (codes ">") (decimal slot ++ b) (put (decimal slot) b (output slot h) p)
opened Append slot path b h p = mark (codes "+") (decimal slot ++ b) (put (decimal slot) b (output slot h) p)

mutual
  unfolding node_image many_image

  pub spelled : {s : Sort} (x : Node s) → IsTrue (is_sound x) → IsTrue (has_characters x) → IsTrue (within greatest_number x) → Spells x (node_image x)
  spelled t.Empty s u w = refl
  spelled (t.Seq items) s u w =
      let ul0 = and_parts (any (count items)) (all_in_many is_utf8 any items) u in
      let wl0 = and_parts (size (count items)) (all_in_many short size items) w in
      mark _ ((list_image (count items) (many_image items))) (listing (count items) 44 (many_image items) (leb-true (count items) greatest_number wl0.0) (all_spelled items s ul0.1 wl0.1))
  spelled (t.Simple words) s u w =
      let s0 = and_parts (has_some words) (are_sound words) s in
      let ul0 = and_parts (any (count words)) (all_in_many is_utf8 any words) u in
      let wl0 = and_parts (size (count words)) (all_in_many short size words) w in
      mark _ ((list_image (count words) (many_image words))) (listing (count words) 44 (many_image words) (leb-true (count words) greatest_number wl0.0) (all_spelled words s0.1 ul0.1 wl0.1))
  spelled (t.Assign pairs body) s u w =
      let s0 = and_parts (has_some pairs) (are_sound pairs && is_sound body) s in
      let s1 = and_parts (are_sound pairs) (is_sound body) s0.1 in
      let u0 = and_parts ((any (count pairs) && all_in_many is_utf8 any pairs)) (all_in is_utf8 any body) u in
      let ul0 = and_parts (any (count pairs)) (all_in_many is_utf8 any pairs) u0.0 in
      let w0 = and_parts ((size (count pairs) && all_in_many short size pairs)) (all_in short size body) w in
      let wl0 = and_parts (size (count pairs)) (all_in_many short size pairs) w0.0 in
      mark _ ((list_image (count pairs) (many_image pairs)) ++ (node_image body))
      (put (list_image (count pairs) (many_image pairs)) ((node_image body))
      (listing (count pairs) 44 (many_image pairs) (leb-true (count pairs) greatest_number wl0.0) (all_spelled pairs s1.0 ul0.1 wl0.1))
      (spelled body s1.1 u0.1 w0.1))
  spelled (t.Redirect redirs body) s u w =
      let s0 = and_parts (has_some redirs) (are_sound redirs && is_sound body) s in
      let s1 = and_parts (are_sound redirs) (is_sound body) s0.1 in
      let u0 = and_parts ((any (count redirs) && all_in_many is_utf8 any redirs)) (all_in is_utf8 any body) u in
      let ul0 = and_parts (any (count redirs)) (all_in_many is_utf8 any redirs) u0.0 in
      let w0 = and_parts ((size (count redirs) && all_in_many short size redirs)) (all_in short size body) w in
      let wl0 = and_parts (size (count redirs)) (all_in_many short size redirs) w0.0 in
      mark _ ((list_image (count redirs) (many_image redirs)) ++ (node_image body))
      (put (list_image (count redirs) (many_image redirs)) ((node_image body))
      (listing (count redirs) 44 (many_image redirs) (leb-true (count redirs) greatest_number wl0.0) (all_spelled redirs s1.0 ul0.1 wl0.1))
      (spelled body s1.1 u0.1 w0.1))
  spelled (t.Pipeline stages last) s u w =
      let s0 = and_parts (has_stages stages) (are_sound stages && is_sound last) s in
      let s1 = and_parts (are_sound stages) (is_sound last) s0.1 in
      let u0 = and_parts ((any (count stages) && all_in_many is_utf8 any stages)) (all_in is_utf8 any last) u in
      let ul0 = and_parts (any (count stages)) (all_in_many is_utf8 any stages) u0.0 in
      let w0 = and_parts ((size (count stages) && all_in_many short size stages)) (all_in short size last) w in
      let wl0 = and_parts (size (count stages)) (all_in_many short size stages) w0.0 in
      mark _ ((list_image (count stages) (many_image stages)) ++ (node_image last))
      (put (list_image (count stages) (many_image stages)) ((node_image last))
      (listing (count stages) 44 (many_image stages) (leb-true (count stages) greatest_number wl0.0) (all_spelled stages s1.0 ul0.1 wl0.1))
      (spelled last s1.1 u0.1 w0.1))
  spelled (t.AndOr first links) s u w =
      let s0 = and_parts (has_some links) (is_sound first && are_sound links) s in
      let s1 = and_parts (is_sound first) (are_sound links) s0.1 in
      let u0 = and_parts (all_in is_utf8 any first) ((any (count links) && all_in_many is_utf8 any links)) u in
      let ul1 = and_parts (any (count links)) (all_in_many is_utf8 any links) u0.1 in
      let w0 = and_parts (all_in short size first) ((size (count links) && all_in_many short size links)) w in
      let wl1 = and_parts (size (count links)) (all_in_many short size links) w0.1 in
      mark _ ((node_image first) ++ (list_image (count links) (many_image links)))
      (put (node_image first) ((list_image (count links) (many_image links))) (spelled first s1.0 u0.0 w0.0)
      (listing (count links) 44 (many_image links) (leb-true (count links) greatest_number wl1.0) (all_spelled links s1.1 ul1.1 wl1.1)))
  spelled (t.Not body) s u w = mark _ ((node_image body)) (spelled body s u w)
  spelled (t.Subshell body) s u w = mark _ ((node_image body)) (spelled body s u w)
  spelled (t.If condition body) s u w =
      let s0 = and_parts (is_sound condition) (is_sound body) s in
      let u0 = and_parts (all_in is_utf8 any condition) (all_in is_utf8 any body) u in
      let w0 = and_parts (all_in short size condition) (all_in short size body) w in
      mark _ ((node_image condition) ++ (node_image body)) (put (node_image condition) ((node_image body)) (spelled condition s0.0 u0.0 w0.0) (spelled body s0.1 u0.1 w0.1))
  spelled (t.IfNot body) s u w = mark _ ((node_image body)) (spelled body s u w)
  spelled (t.While condition body) s u w =
      let s0 = and_parts (is_sound condition) (is_sound body) s in
      let u0 = and_parts (all_in is_utf8 any condition) (all_in is_utf8 any body) u in
      let w0 = and_parts (all_in short size condition) (all_in short size body) w in
      mark _ ((node_image condition) ++ (node_image body)) (put (node_image condition) ((node_image body)) (spelled condition s0.0 u0.0 w0.0) (spelled body s0.1 u0.1 w0.1))
  spelled (t.ForAll name body) s u w =
      let s0 = and_parts (is_sound name) (is_sound body) s in
      let u0 = and_parts (all_in is_utf8 any name) (all_in is_utf8 any body) u in
      let w0 = and_parts (all_in short size name) (all_in short size body) w in
      mark _ ((node_image name) ++ (node_image body)) (put (node_image name) ((node_image body)) (spelled name s0.0 u0.0 w0.0) (spelled body s0.1 u0.1 w0.1))
  spelled (t.For name words body) s u w =
      let s0 = and_parts (is_sound name) (are_sound words && is_sound body) s in
      let s1 = and_parts (are_sound words) (is_sound body) s0.1 in
      let u0 = and_parts (all_in is_utf8 any name) ((any (count words) && all_in_many is_utf8 any words) && all_in is_utf8 any body) u in
      let u1 = and_parts ((any (count words) && all_in_many is_utf8 any words)) (all_in is_utf8 any body) u0.1 in
      let ul1 = and_parts (any (count words)) (all_in_many is_utf8 any words) u1.0 in
      let w0 = and_parts (all_in short size name) ((size (count words) && all_in_many short size words) && all_in short size body) w in
      let w1 = and_parts ((size (count words) && all_in_many short size words)) (all_in short size body) w0.1 in
      let wl1 = and_parts (size (count words)) (all_in_many short size words) w1.0 in
      mark _ ((node_image name) ++ ((list_image (count words) (many_image words)) ++ (node_image body)))
      (put (node_image name) ((list_image (count words) (many_image words)) ++ (node_image body)) (spelled name s0.0 u0.0 w0.0)
      (put (list_image (count words) (many_image words)) ((node_image body))
      (listing (count words) 44 (many_image words) (leb-true (count words) greatest_number wl1.0) (all_spelled words s1.0 ul1.1 wl1.1))
      (spelled body s1.1 u1.1 w1.1)))
  spelled (t.Switch subject branches) s u w =
      let s0 = and_parts (is_sound subject) (are_sound branches) s in
      let u0 = and_parts (all_in is_utf8 any subject) ((any (count branches) && all_in_many is_utf8 any branches)) u in
      let ul1 = and_parts (any (count branches)) (all_in_many is_utf8 any branches) u0.1 in
      let w0 = and_parts (all_in short size subject) ((size (count branches) && all_in_many short size branches)) w in
      let wl1 = and_parts (size (count branches)) (all_in_many short size branches) w0.1 in
      mark _ ((node_image subject) ++ (list_image (count branches) (many_image branches)))
      (put (node_image subject) ((list_image (count branches) (many_image branches))) (spelled subject s0.0 u0.0 w0.0)
      (listing (count branches) 44 (many_image branches) (leb-true (count branches) greatest_number wl1.0) (all_spelled branches s0.1 ul1.1 wl1.1)))
  spelled (t.Match subject patterns) s u w =
      let s0 = and_parts (is_sound subject) (are_sound patterns) s in
      let u0 = and_parts (all_in is_utf8 any subject) ((any (count patterns) && all_in_many is_utf8 any patterns)) u in
      let ul1 = and_parts (any (count patterns)) (all_in_many is_utf8 any patterns) u0.1 in
      let w0 = and_parts (all_in short size subject) ((size (count patterns) && all_in_many short size patterns)) w in
      let wl1 = and_parts (size (count patterns)) (all_in_many short size patterns) w0.1 in
      mark _ ((node_image subject) ++ (list_image (count patterns) (many_image patterns)))
      (put (node_image subject) ((list_image (count patterns) (many_image patterns))) (spelled subject s0.0 u0.0 w0.0)
      (listing (count patterns) 44 (many_image patterns) (leb-true (count patterns) greatest_number wl1.0) (all_spelled patterns s0.1 ul1.1 wl1.1)))
  spelled (t.Define names body) s u w =
      let s0 = and_parts (has_some names) (are_sound names && is_sound body) s in
      let s1 = and_parts (are_sound names) (is_sound body) s0.1 in
      let u0 = and_parts ((any (count names) && all_in_many is_utf8 any names)) (all_in is_utf8 any body) u in
      let ul0 = and_parts (any (count names)) (all_in_many is_utf8 any names) u0.0 in
      let w0 = and_parts ((size (count names) && all_in_many short size names)) (all_in short size body) w in
      let wl0 = and_parts (size (count names)) (all_in_many short size names) w0.0 in
      mark _ ((list_image (count names) (many_image names)) ++ (node_image body))
      (put (list_image (count names) (many_image names)) ((node_image body))
      (listing (count names) 44 (many_image names) (leb-true (count names) greatest_number wl0.0) (all_spelled names s1.0 ul0.1 wl0.1))
      (spelled body s1.1 u0.1 w0.1))
  spelled (t.Undefine names) s u w =
      let s0 = and_parts (has_some names) (are_sound names) s in
      let ul0 = and_parts (any (count names)) (all_in_many is_utf8 any names) u in
      let wl0 = and_parts (size (count names)) (all_in_many short size names) w in
      mark _ ((list_image (count names) (many_image names))) (listing (count names) 44 (many_image names) (leb-true (count names) greatest_number wl0.0) (all_spelled names s0.1 ul0.1 wl0.1))
  spelled (t.Brace body) s u w = mark _ ((node_image body)) (spelled body s u w)
  spelled (t.Concat parts) s u w =
      let s0 = and_parts (has_several parts) (are_sound parts) s in
      let ul0 = and_parts (any (count parts)) (all_in_many is_utf8 any parts) u in
      let wl0 = and_parts (size (count parts)) (all_in_many short size parts) w in
      mark _ ((list_image (count parts) (many_image parts))) (listing (count parts) 44 (many_image parts) (leb-true (count parts) greatest_number wl0.0) (all_spelled parts s0.1 ul0.1 wl0.1))
  spelled (t.Paren words) s u w =
      let ul0 = and_parts (any (count words)) (all_in_many is_utf8 any words) u in
      let wl0 = and_parts (size (count words)) (all_in_many short size words) w in
      mark _ ((list_image (count words) (many_image words))) (listing (count words) 44 (many_image words) (leb-true (count words) greatest_number wl0.0) (all_spelled words s ul0.1 wl0.1))
  spelled (t.Var name) s u w = mark _ ((node_image name)) (spelled name s u w)
  spelled (t.Count name) s u w = mark _ ((node_image name)) (spelled name s u w)
  spelled (t.Flat name) s u w = mark _ ((node_image name)) (spelled name s u w)
  spelled (t.Sub name subscripts) s u w =
      let s0 = and_parts (is_sound name) (are_sound subscripts) s in
      let u0 = and_parts (all_in is_utf8 any name) ((any (count subscripts) && all_in_many is_utf8 any subscripts)) u in
      let ul1 = and_parts (any (count subscripts)) (all_in_many is_utf8 any subscripts) u0.1 in
      let w0 = and_parts (all_in short size name) ((size (count subscripts) && all_in_many short size subscripts)) w in
      let wl1 = and_parts (size (count subscripts)) (all_in_many short size subscripts) w0.1 in
      mark _ ((node_image name) ++ (list_image (count subscripts) (many_image subscripts)))
      (put (node_image name) ((list_image (count subscripts) (many_image subscripts))) (spelled name s0.0 u0.0 w0.0)
      (listing (count subscripts) 44 (many_image subscripts) (leb-true (count subscripts) greatest_number wl1.0) (all_spelled subscripts s0.1 ul1.1 wl1.1)))
  spelled (t.Back body) s u w = mark _ ((node_image body)) (spelled body s u w)
  spelled (t.Item body background) s u w = mark _ ((node_image body)) (spelled body s u w)
  spelled (t.Pair name value) s u w =
      let s0 = and_parts (is_sound name) (is_sound value) s in
      let u0 = and_parts (all_in is_utf8 any name) (all_in is_utf8 any value) u in
      let w0 = and_parts (all_in short size name) (all_in short size value) w in
      (put (node_image name) ((node_image value)) (spelled name s0.0 u0.0 w0.0) (spelled value s0.1 u0.1 w0.1))
  spelled (t.Stage body slot) s u w = let s0 = and_parts (is_output slot) (is_sound body) s in put (decimal slot) ((node_image body)) (output slot s0.0) (spelled body s0.1 u w)
  spelled (t.Link logic body) s u w = mark _ ((node_image body)) (spelled body s u w)
  spelled (t.Branch patterns body) s u w =
      let s0 = and_parts (are_sound patterns) (is_sound body) s in
      let u0 = and_parts ((any (count patterns) && all_in_many is_utf8 any patterns)) (all_in is_utf8 any body) u in
      let ul0 = and_parts (any (count patterns)) (all_in_many is_utf8 any patterns) u0.0 in
      let w0 = and_parts ((size (count patterns) && all_in_many short size patterns)) (all_in short size body) w in
      let wl0 = and_parts (size (count patterns)) (all_in_many short size patterns) w0.0 in
      (put (list_image (count patterns) (many_image patterns)) ((node_image body))
      (listing (count patterns) 44 (many_image patterns) (leb-true (count patterns) greatest_number wl0.0) (all_spelled patterns s0.0 ul0.1 wl0.1))
      (spelled body s0.1 u0.1 w0.1))
  spelled (t.Open mode slot path) s u w = let s0 = and_parts (opens mode slot) (is_sound path) s in opened mode slot (Spells path) (node_image path) s0.0 (spelled path s0.1 u w)
  spelled (t.Here pieces) s u w =
      let ul0 = and_parts (any (count pieces)) (all_in_many is_utf8 any pieces) u in
      let wl0 = and_parts (size (count pieces)) (all_in_many short size pieces) w in
      mark _ ((list_image (count pieces) (many_image pieces))) (listing (count pieces) 44 (many_image pieces) (leb-true (count pieces) greatest_number wl0.0) (all_spelled pieces s ul0.1 wl0.1))
  spelled (t.Lit x quoted) s u w = mark (literal_mark quoted) (text_image x) (texted x (and_parts (quoted || has_text x) _ s).1 u w)
  spelled (t.Copy to from) s u w = mark (codes "=") (decimal to ++ decimal from) (crossing to from s)
  spelled (t.Text x) s u w = mark (codes "t") (text_image x) (texted x s u w)
  spelled (t.Name x) s u w = mark (codes "v") (text_image x) (texted x s u w)

  all_spelled : {s : Sort} (ns : Many s) → IsTrue (are_sound ns) → IsTrue (all_in_many is_utf8 any ns) → IsTrue (all_in_many short size ns) → SpellsAll ns (many_image ns)
  all_spelled none s u w = refl
  all_spelled (more n ns) s u w =
      let s0 = and_parts (is_sound n) (are_sound ns) s in
      let u0 = and_parts (all_in is_utf8 any n) (all_in_many is_utf8 any ns) u in
      let w0 = and_parts (all_in short size n) (all_in_many short size ns) w in
      put (node_image n) (many_image ns) (spelled n s0.0 u0.0 w0.0) (all_spelled ns s0.1 u0.1 w0.1)
