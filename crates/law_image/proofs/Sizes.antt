-- No text of a tree is longer than its spelling, and no list has more members.
use Rattle.std.specs.Prelude.{IsTrue, codes, nat_le}
use Rattle.std.proofs.Common.{ℕ, ◌≤◌, List, [], ◌∷◌, ◌++◌, length, Bool, true, false, refl, length-append, arith}
use Rattle.std.specs.Fmt.{decimal}
use Rattle.std.proofs.lemmas.Bool.{and_from, le-leb}
use Rattle.rc_model.specs.Syntax.Tree.{Sort, Node, Many, none, more, count}
use Rattle.rc_model.specs.Syntax.Tree as t
use Rattle.rc_model.specs.Handed.Image.{node_image, many_image, list_image, text_image, literal_mark, item_mark, logic_mark, opening_mark}
use Rattle.rc_model.specs.Handed.TreeSpelling.{all_in_many, within}

left : (a b : List ℕ) (n : ℕ) → length (a ++ b) ≤ n → length a ≤ n
left a b n h = omega (arith, length-append a b)

right : (a b : List ℕ) (n : ℕ) → length (a ++ b) ≤ n → length b ≤ n
right a b n h = omega (arith, length-append a b)

listing : (m mark : ℕ) (b : List ℕ) (n : ℕ) → length (decimal m ++ mark ∷ b) ≤ n → length b ≤ n
listing m mark b n h = omega (arith, length-append (decimal m) (mark ∷ b))

word_le : (quoted : Bool) (x : List ℕ) (n : ℕ) → length (literal_mark quoted ++ text_image x) ≤ n → IsTrue (nat_le (length x) n)
word_le quoted x n h = le-leb (length x) n (listing (length x) 58 x n (right (literal_mark quoted) (text_image x) n h))

one_byte : (b : ℕ) (bs : List ℕ) → 1 ≤ length (b ∷ bs)
one_byte b bs = omega arith

more_left : (a b : List ℕ) → 1 ≤ length a → 1 ≤ length (a ++ b)
more_left a b h = omega (arith, length-append a b)

more_right : (a b : List ℕ) → 1 ≤ length b → 1 ≤ length (a ++ b)
more_right a b h = omega (arith, length-append a b)

-- each node is written
nonempty : {s : Sort} (x : Node s) → 1 ≤ length (node_image x)
unfolding node_image many_image
nonempty t.Empty = one_byte 101 []
nonempty (t.Lit text true) = one_byte 113 (text_image text)
nonempty (t.Lit text false) = one_byte 119 (text_image text)
nonempty (t.Copy to from) = one_byte 61 (decimal to ++ decimal from)
nonempty (t.Text text) = one_byte 116 (text_image text)
nonempty (t.Name text) = one_byte 118 (text_image text)
nonempty (t.Seq items) = one_byte 115 ((list_image (count items) (many_image items)))
nonempty (t.Simple words) = one_byte 99 ((list_image (count words) (many_image words)))
nonempty (t.Assign pairs body) = one_byte 61 ((list_image (count pairs) (many_image pairs)) ++ (node_image body))
nonempty (t.Redirect redirs body) = one_byte 114 ((list_image (count redirs) (many_image redirs)) ++ (node_image body))
nonempty (t.Pipeline stages last) = one_byte 112 ((list_image (count stages) (many_image stages)) ++ (node_image last))
nonempty (t.AndOr first links) = one_byte 97 ((node_image first) ++ (list_image (count links) (many_image links)))
nonempty (t.Not body) = one_byte 33 ((node_image body))
nonempty (t.Subshell body) = one_byte 64 ((node_image body))
nonempty (t.If condition body) = one_byte 105 ((node_image condition) ++ (node_image body))
nonempty (t.IfNot body) = one_byte 110 ((node_image body))
nonempty (t.While condition body) = one_byte 119 ((node_image condition) ++ (node_image body))
nonempty (t.ForAll name body) = one_byte 102 ((node_image name) ++ (node_image body))
nonempty (t.For name words body) = one_byte 70 ((node_image name) ++ ((list_image (count words) (many_image words)) ++ (node_image body)))
nonempty (t.Switch subject branches) = one_byte 83 ((node_image subject) ++ (list_image (count branches) (many_image branches)))
nonempty (t.Match subject patterns) = one_byte 126 ((node_image subject) ++ (list_image (count patterns) (many_image patterns)))
nonempty (t.Define names body) = one_byte 100 ((list_image (count names) (many_image names)) ++ (node_image body))
nonempty (t.Undefine names) = one_byte 117 ((list_image (count names) (many_image names)))
nonempty (t.Brace body) = one_byte 98 ((node_image body))
nonempty (t.Concat parts) = one_byte 94 ((list_image (count parts) (many_image parts)))
nonempty (t.Paren words) = one_byte 40 ((list_image (count words) (many_image words)))
nonempty (t.Var name) = one_byte 36 ((node_image name))
nonempty (t.Count name) = one_byte 35 ((node_image name))
nonempty (t.Flat name) = one_byte 34 ((node_image name))
nonempty (t.Sub name subscripts) = one_byte 91 ((node_image name) ++ (list_image (count subscripts) (many_image subscripts)))
nonempty (t.Back body) = one_byte 96 ((node_image body))
nonempty (t.Item body background) = more_right (item_mark background) (node_image body) (nonempty body)
nonempty (t.Pair name value) = more_left (node_image name) (node_image value) (nonempty name)
nonempty (t.Stage body slot) = more_right (decimal slot) (node_image body) (nonempty body)
nonempty (t.Link logic body) = more_right (logic_mark logic) (node_image body) (nonempty body)
nonempty (t.Branch patterns body) = more_right (list_image (count patterns) (many_image patterns)) (node_image body) (nonempty body)
nonempty (t.Open mode slot path) = more_right (opening_mark mode slot) (node_image path) (nonempty path)
nonempty (t.Here pieces) = one_byte 104 ((list_image (count pieces) (many_image pieces)))

counted : {s : Sort} (ns : Many s) → count ns ≤ length (many_image ns)
unfolding node_image many_image
counted none = omega arith
counted (more n ns) = omega (arith, length-append (node_image n) (many_image ns), nonempty n, counted ns)

count_le : {s : Sort} (ns : Many s) (n : ℕ) → length (many_image ns) ≤ n → IsTrue (nat_le (count ns) n)
count_le ns n h = le-leb (count ns) n (omega (arith, counted ns))

mutual
  unfolding node_image many_image

  pub within_of : {s : Sort} (x : Node s) (n : ℕ) → length (node_image x) ≤ n → IsTrue (within n x)
  within_of t.Empty n h = refl
  within_of (t.Lit text quoted) n h = word_le quoted text n h
  within_of (t.Copy to from) n h = refl
  within_of (t.Text text) n h = le-leb (length text) n (listing (length text) 58 text n (right (codes "t") (text_image text) n h))
  within_of (t.Name text) n h = le-leb (length text) n (listing (length text) 58 text n (right (codes "v") (text_image text) n h))
  within_of (t.Seq items) n h =
      and_from _ _
      (count_le items n (listing (count items) 44 (many_image items) n (right (codes "s") ((list_image (count items) (many_image items))) n h)))
      (all_within items n (listing (count items) 44 (many_image items) n (right (codes "s") ((list_image (count items) (many_image items))) n h)))
  within_of (t.Simple words) n h =
      and_from _ _
      (count_le words n (listing (count words) 44 (many_image words) n (right (codes "c") ((list_image (count words) (many_image words))) n h)))
      (all_within words n (listing (count words) 44 (many_image words) n (right (codes "c") ((list_image (count words) (many_image words))) n h)))
  within_of (t.Assign pairs body) n h =
      and_from _ _
      (and_from _ _ (count_le pairs n
      (listing (count pairs) 44 (many_image pairs) n
      (left (list_image (count pairs) (many_image pairs)) ((node_image body)) n (right (codes "=") ((list_image (count pairs) (many_image pairs)) ++ (node_image body)) n h))))
      (all_within pairs n (listing (count pairs) 44 (many_image pairs) n
      (left (list_image (count pairs) (many_image pairs)) ((node_image body)) n (right (codes "=") ((list_image (count pairs) (many_image pairs)) ++ (node_image body)) n h)))))
      (within_of body n (right (list_image (count pairs) (many_image pairs)) ((node_image body)) n (right (codes "=") ((list_image (count pairs) (many_image pairs)) ++ (node_image body)) n h)))
  within_of (t.Redirect redirs body) n h =
      and_from _ _
      (and_from _ _ (count_le redirs n
      (listing (count redirs) 44 (many_image redirs) n
      (left (list_image (count redirs) (many_image redirs)) ((node_image body)) n (right (codes "r") ((list_image (count redirs) (many_image redirs)) ++ (node_image body)) n h))))
      (all_within redirs n (listing (count redirs) 44 (many_image redirs) n
      (left (list_image (count redirs) (many_image redirs)) ((node_image body)) n (right (codes "r") ((list_image (count redirs) (many_image redirs)) ++ (node_image body)) n h)))))
      (within_of body n (right (list_image (count redirs) (many_image redirs)) ((node_image body)) n (right (codes "r") ((list_image (count redirs) (many_image redirs)) ++ (node_image body)) n h)))
  within_of (t.Pipeline stages last) n h =
      and_from _ _
      (and_from _ _ (count_le stages n
      (listing (count stages) 44 (many_image stages) n
      (left (list_image (count stages) (many_image stages)) ((node_image last)) n (right (codes "p") ((list_image (count stages) (many_image stages)) ++ (node_image last)) n h))))
      (all_within stages n (listing (count stages) 44 (many_image stages) n
      (left (list_image (count stages) (many_image stages)) ((node_image last)) n (right (codes "p") ((list_image (count stages) (many_image stages)) ++ (node_image last)) n h)))))
      (within_of last n (right (list_image (count stages) (many_image stages)) ((node_image last)) n (right (codes "p") ((list_image (count stages) (many_image stages)) ++ (node_image last)) n h)))
  within_of (t.AndOr first links) n h =
      and_from _ _
      (within_of first n (left (node_image first) ((list_image (count links) (many_image links))) n (right (codes "a") ((node_image first) ++ (list_image (count links) (many_image links))) n h)))
      (and_from _ _ (count_le links n
      (listing (count links) 44 (many_image links) n
      (right (node_image first) ((list_image (count links) (many_image links))) n (right (codes "a") ((node_image first) ++ (list_image (count links) (many_image links))) n h))))
      (all_within links n (listing (count links) 44 (many_image links) n
      (right (node_image first) ((list_image (count links) (many_image links))) n (right (codes "a") ((node_image first) ++ (list_image (count links) (many_image links))) n h)))))
  within_of (t.Not body) n h = within_of body n (right (codes "!") ((node_image body)) n h)
  within_of (t.Subshell body) n h = within_of body n (right (codes "@") ((node_image body)) n h)
  within_of (t.If condition body) n h =
      and_from _ _
      (within_of condition n (left (node_image condition) ((node_image body)) n (right (codes "i") ((node_image condition) ++ (node_image body)) n h)))
      (within_of body n (right (node_image condition) ((node_image body)) n (right (codes "i") ((node_image condition) ++ (node_image body)) n h)))
  within_of (t.IfNot body) n h = within_of body n (right (codes "n") ((node_image body)) n h)
  within_of (t.While condition body) n h =
      and_from _ _
      (within_of condition n (left (node_image condition) ((node_image body)) n (right (codes "w") ((node_image condition) ++ (node_image body)) n h)))
      (within_of body n (right (node_image condition) ((node_image body)) n (right (codes "w") ((node_image condition) ++ (node_image body)) n h)))
  within_of (t.ForAll name body) n h =
      and_from _ _ (within_of name n (left (node_image name) ((node_image body)) n (right (codes "f") ((node_image name) ++ (node_image body)) n h)))
      (within_of body n (right (node_image name) ((node_image body)) n (right (codes "f") ((node_image name) ++ (node_image body)) n h)))
  within_of (t.For name words body) n h =
      and_from _ _
      (within_of name n (left (node_image name) ((list_image (count words) (many_image words)) ++ (node_image body)) n
      (right (codes "F") ((node_image name) ++ ((list_image (count words) (many_image words)) ++ (node_image body))) n h)))
      (and_from _ _ (and_from _ _
      (count_le words n (listing (count words) 44 (many_image words) n
      (left (list_image (count words) (many_image words)) ((node_image body)) n
      (right (node_image name) ((list_image (count words) (many_image words)) ++ (node_image body)) n
      (right (codes "F") ((node_image name) ++ ((list_image (count words) (many_image words)) ++ (node_image body))) n h)))))
      (all_within words n (listing (count words) 44 (many_image words) n
      (left (list_image (count words) (many_image words)) ((node_image body)) n
      (right (node_image name) ((list_image (count words) (many_image words)) ++ (node_image body)) n
      (right (codes "F") ((node_image name) ++ ((list_image (count words) (many_image words)) ++ (node_image body))) n h))))))
      (within_of body n (right (list_image (count words) (many_image words)) ((node_image body)) n
      (right (node_image name) ((list_image (count words) (many_image words)) ++ (node_image body)) n
      (right (codes "F") ((node_image name) ++ ((list_image (count words) (many_image words)) ++ (node_image body))) n h)))))
  within_of (t.Switch subject branches) n h =
      and_from _ _
      (within_of subject n (left (node_image subject) ((list_image (count branches) (many_image branches))) n
      (right (codes "S") ((node_image subject) ++ (list_image (count branches) (many_image branches))) n h)))
      (and_from _ _ (count_le branches n
      (listing (count branches) 44 (many_image branches) n
      (right (node_image subject) ((list_image (count branches) (many_image branches))) n
      (right (codes "S") ((node_image subject) ++ (list_image (count branches) (many_image branches))) n h))))
      (all_within branches n (listing (count branches) 44 (many_image branches) n
      (right (node_image subject) ((list_image (count branches) (many_image branches))) n
      (right (codes "S") ((node_image subject) ++ (list_image (count branches) (many_image branches))) n h)))))
  within_of (t.Match subject patterns) n h =
      and_from _ _
      (within_of subject n (left (node_image subject) ((list_image (count patterns) (many_image patterns))) n
      (right (codes "~") ((node_image subject) ++ (list_image (count patterns) (many_image patterns))) n h)))
      (and_from _ _ (count_le patterns n
      (listing (count patterns) 44 (many_image patterns) n
      (right (node_image subject) ((list_image (count patterns) (many_image patterns))) n
      (right (codes "~") ((node_image subject) ++ (list_image (count patterns) (many_image patterns))) n h))))
      (all_within patterns n (listing (count patterns) 44 (many_image patterns) n
      (right (node_image subject) ((list_image (count patterns) (many_image patterns))) n
      (right (codes "~") ((node_image subject) ++ (list_image (count patterns) (many_image patterns))) n h)))))
  within_of (t.Define names body) n h =
      and_from _ _
      (and_from _ _ (count_le names n
      (listing (count names) 44 (many_image names) n
      (left (list_image (count names) (many_image names)) ((node_image body)) n (right (codes "d") ((list_image (count names) (many_image names)) ++ (node_image body)) n h))))
      (all_within names n (listing (count names) 44 (many_image names) n
      (left (list_image (count names) (many_image names)) ((node_image body)) n (right (codes "d") ((list_image (count names) (many_image names)) ++ (node_image body)) n h)))))
      (within_of body n (right (list_image (count names) (many_image names)) ((node_image body)) n (right (codes "d") ((list_image (count names) (many_image names)) ++ (node_image body)) n h)))
  within_of (t.Undefine names) n h =
      and_from _ _
      (count_le names n (listing (count names) 44 (many_image names) n (right (codes "u") ((list_image (count names) (many_image names))) n h)))
      (all_within names n (listing (count names) 44 (many_image names) n (right (codes "u") ((list_image (count names) (many_image names))) n h)))
  within_of (t.Brace body) n h = within_of body n (right (codes "b") ((node_image body)) n h)
  within_of (t.Concat parts) n h =
      and_from _ _
      (count_le parts n (listing (count parts) 44 (many_image parts) n (right (codes "^") ((list_image (count parts) (many_image parts))) n h)))
      (all_within parts n (listing (count parts) 44 (many_image parts) n (right (codes "^") ((list_image (count parts) (many_image parts))) n h)))
  within_of (t.Paren words) n h =
      and_from _ _
      (count_le words n (listing (count words) 44 (many_image words) n (right (codes "(") ((list_image (count words) (many_image words))) n h)))
      (all_within words n (listing (count words) 44 (many_image words) n (right (codes "(") ((list_image (count words) (many_image words))) n h)))
  within_of (t.Var name) n h = within_of name n (right (codes "$") ((node_image name)) n h)
  within_of (t.Count name) n h = within_of name n (right (codes "#") ((node_image name)) n h)
  within_of (t.Flat name) n h = within_of name n (right (codes "\"") ((node_image name)) n h)
  within_of (t.Sub name subscripts) n h =
      and_from _ _
      (within_of name n (left (node_image name) ((list_image (count subscripts) (many_image subscripts))) n
      (right (codes "[") ((node_image name) ++ (list_image (count subscripts) (many_image subscripts))) n h)))
      (and_from _ _ (count_le subscripts n
      (listing (count subscripts) 44 (many_image subscripts) n
      (right (node_image name) ((list_image (count subscripts) (many_image subscripts))) n
      (right (codes "[") ((node_image name) ++ (list_image (count subscripts) (many_image subscripts))) n h))))
      (all_within subscripts n (listing (count subscripts) 44 (many_image subscripts) n
      (right (node_image name) ((list_image (count subscripts) (many_image subscripts))) n
      (right (codes "[") ((node_image name) ++ (list_image (count subscripts) (many_image subscripts))) n h)))))
  within_of (t.Back body) n h = within_of body n (right (codes "`") ((node_image body)) n h)
  within_of (t.Item body background) n h = within_of body n (right (item_mark background) ((node_image body)) n h)
  within_of (t.Pair name value) n h = and_from _ _ (within_of name n (left (node_image name) ((node_image value)) n h)) (within_of value n (right (node_image name) ((node_image value)) n h))
  within_of (t.Stage body slot) n h = within_of body n (right (decimal slot) ((node_image body)) n h)
  within_of (t.Link logic body) n h = within_of body n (right (logic_mark logic) ((node_image body)) n h)
  within_of (t.Branch patterns body) n h =
      and_from _ _
      (and_from _ _ (count_le patterns n (listing (count patterns) 44 (many_image patterns) n (left (list_image (count patterns) (many_image patterns)) ((node_image body)) n h)))
      (all_within patterns n (listing (count patterns) 44 (many_image patterns) n (left (list_image (count patterns) (many_image patterns)) ((node_image body)) n h))))
      (within_of body n (right (list_image (count patterns) (many_image patterns)) ((node_image body)) n h))
  within_of (t.Open mode slot path) n h = within_of path n (right (opening_mark mode slot) ((node_image path)) n h)
  within_of (t.Here pieces) n h =
      and_from _ _
      (count_le pieces n (listing (count pieces) 44 (many_image pieces) n (right (codes "h") ((list_image (count pieces) (many_image pieces))) n h)))
      (all_within pieces n (listing (count pieces) 44 (many_image pieces) n (right (codes "h") ((list_image (count pieces) (many_image pieces))) n h)))

  all_within : {s : Sort} (ns : Many s) (n : ℕ) → length (many_image ns) ≤ n → IsTrue (all_in_many (λ text. nat_le (length text) n) (λ m. nat_le m n) ns)
  all_within none n h = refl
  all_within (more x xs) n h = and_from _ _ (within_of x n (left (node_image x) (many_image xs) n h)) (all_within xs n (right (node_image x) (many_image xs) n h))
