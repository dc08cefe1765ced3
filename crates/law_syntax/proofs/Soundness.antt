-- What the descent reads is a phrase: commands, lists of them, and all that is read, however many levels are left.
use Rattle.std.proofs.Common.{◌≡◌, ℕ, zero, suc, ◌≤◌, Bool, true, false, not, ◌&&◌, List, [], ◌∷◌, length, Ok, ◌⊎◌, inl, inr, refl, sym, ap, subst, arith}
use Rattle.rc_model.specs.Syntax.Tokens.{Lexeme, Semicolon, Ampersand, Newline, AndAnd, OrOr}
use Rattle.rc_model.specs.Syntax.Tree.{Node, Many, none, snoc}
use Rattle.rc_model.specs.Syntax.Tree as t
use Rattle.rc_model.specs.Syntax.Grammar.{Phrase, past_newlines, and_or, is_if, closes, ends}
use Rattle.rc_model.specs.Syntax.Grammar as g
use Rattle.rc_model.specs.Mirrors.Descent as d
use Rattle.rc_model.specs.Mirrors.Descent.{Reader, Readers}
use Rattle.law_syntax.proofs.Shorter.{Phrase-shorter, past_newlines-shorter}
use Rattle.law_syntax.proofs.Beginnings.{closes_ends}
use Rattle.law_syntax.proofs.Lists.{done, ok_same, bind_ok, if_ok, Adds, adds_none, adds_more, adds_same, all_added}
use Rattle.rc_model.specs.declared.syntax.Logic.TheVariants.{And, Or}
use Rattle.law_syntax.proofs.SoundnessOfArguments.{Sound, found, name_sound, part_sound}
use Rattle.law_syntax.proofs.SoundnessOfPipelines.{operand_sound, piped_sound}
use Rattle.rc_model.specs.declared.fault.DescentFault.TheVariants as descent

-- commands and lists
links_sound : (r : Readers) → Sound r → (k : ℕ) (front : Many t.link) (ts : List Lexeme) (x : Many t.link × List Lexeme) → length ts ≤ k → d.links_from r k front ts ≡ Ok x →
    Adds (λ ls rest. Phrase g.links ts ls rest) front x
unfolding d.links_from
links_sound r s zero front [] x le h = adds_none _ front [] x (g.no_link refl) h
links_sound r s zero front (l ∷ ts) x le h = absurd (omega arith)
links_sound r s (suc k) front (AndAnd ∷ ts) x le h =
    let w = bind_ok (d.operand_by r false (past_newlines ts)) _ x h in
    let p = operand_sound r s false (past_newlines ts) w.0 w.1 in
    let one = Phrase-shorter p in
    let two = past_newlines-shorter ts in
    adds_more _ _ front (t.Link And w.0.0) x (λ ls q. g.and_link p q) (links_sound r s k (snoc front (t.Link And w.0.0)) w.0.1 x (omega arith) w.2)
links_sound r s (suc k) front (OrOr ∷ ts) x le h =
    let w = bind_ok (d.operand_by r false (past_newlines ts)) _ x h in
    let p = operand_sound r s false (past_newlines ts) w.0 w.1 in
    let one = Phrase-shorter p in
    let two = past_newlines-shorter ts in
    adds_more _ _ front (t.Link Or w.0.0) x (λ ls q. g.or_link p q) (links_sound r s k (snoc front (t.Link Or w.0.0)) w.0.1 x (omega arith) w.2)
links_sound r s (suc k) front ts x le h = adds_none _ front ts x (g.no_link refl) h

command_sound : (r : Readers) → Sound r → (f : Bool) (ts : List Lexeme) (x : Node t.cmd × List Lexeme) → d.command_by r f ts ≡ Ok x → Phrase (g.command f) ts x.0 x.1
unfolding d.command_by d.links_by
command_sound r s f ts x h =
    let w = bind_ok (d.operand_by r f ts) _ x h in
    let v = bind_ok (d.links_by r w.0.1) _ x w.2 in
    let q = all_added (λ ls rest. Phrase g.links w.0.1 ls rest) v.0 (links_sound r s (length w.0.1) none w.0.1 v.0 (omega arith) v.1) in
    found (g.command f) ts (and_or w.0.0 v.0.0, v.0.1) x (g.linked (operand_sound r s f ts w.0 w.1) q) v.2

-- a list that ends at once has no command
closed_items : {in_switch f : Bool} {ts : List Lexeme} {is : Many t.item} {rest : List Lexeme} → Phrase (g.items in_switch f) ts is rest → closes ts ≡ true → (none ≡ is) × (ts ≡ rest)
closed_items (g.no_item h) c = (refl, refl)
closed_items (g.semicolon_item p) c = absurd cc
closed_items (g.newline_item p) c = absurd cc
closed_items (g.one_item {in_switch = in_switch} {ts = ts} h p q) c = let e = closes_ends in_switch ts c in absurd cc

item_end_sound : (in_switch : Bool) (c : Node t.cmd) (ts : List Lexeme) (b : Bool × List Lexeme) (is : Many t.item) (rest : List Lexeme) → d.item_end ts ≡ Ok b →
    Phrase (g.items in_switch (not b.0 && is_if c)) b.1 is rest → Phrase (g.after in_switch (is_if c)) ts (b.0, is) rest
unfolding d.item_end
item_end_sound s c (Semicolon ∷ ts) b is rest h p =
    let e = ok_same (false, ts) b h in
    let q : Phrase (g.items s (is_if c)) ts is rest = subst (λ z. Phrase (g.items s (not z.0 && is_if c)) z.1 is rest) (sym e) p in
    subst (λ z. Phrase (g.after s (is_if c)) (Semicolon ∷ ts) (z.0, is) rest) e (g.after_semicolon q)
item_end_sound s c (Newline ∷ ts) b is rest h p =
    let e = ok_same (false, ts) b h in
    let q : Phrase (g.items s (is_if c)) ts is rest = subst (λ z. Phrase (g.items s (not z.0 && is_if c)) z.1 is rest) (sym e) p in
    subst (λ z. Phrase (g.after s (is_if c)) (Newline ∷ ts) (z.0, is) rest) e (g.after_newline q)
item_end_sound s c (Ampersand ∷ ts) b is rest h p =
    let e = ok_same (true, ts) b h in
    let q : Phrase (g.items s false) ts is rest = subst (λ z. Phrase (g.items s (not z.0 && is_if c)) z.1 is rest) (sym e) p in
    subst (λ z. Phrase (g.after s (is_if c)) (Ampersand ∷ ts) (z.0, is) rest) e (g.after_background q)
item_end_sound s c ts b is rest h p = closed_end (if_ok (closes ts) _ _ b h)
  where
    closed_end : ((closes ts ≡ true) × (done (false, ts) ≡ Ok b)) ⊎ ((closes ts ≡ false) × (d.stops descent.Unexpected ts ≡ Ok b)) → Phrase (g.after s (is_if c)) ts (b.0, is) rest
    closed_end (inl k) =
        let e = ok_same (false, ts) b k.1 in
        let q : Phrase (g.items s (is_if c)) ts is rest = subst (λ z. Phrase (g.items s (not z.0 && is_if c)) z.1 is rest) (sym e) p in
        let w = closed_items q k.0 in
        subst (λ z. Phrase (g.after s (is_if c)) ts (b.0, is) z) w.1 (subst (λ z. Phrase (g.after s (is_if c)) ts (b.0, z) ts) w.0
        (subst (λ z. Phrase (g.after s (is_if c)) ts (z.0, none) ts) e (g.after_last k.0)))
    closed_end (inr k) = absurd cc

item_end_shorter : (ts : List Lexeme) (b : Bool × List Lexeme) → d.item_end ts ≡ Ok b → length b.1 ≤ length ts
unfolding d.item_end
item_end_shorter (Semicolon ∷ ts) b h = let e = ap (λ z. length z.1) (ok_same (false, ts) b h) in omega arith
item_end_shorter (Newline ∷ ts) b h = let e = ap (λ z. length z.1) (ok_same (false, ts) b h) in omega arith
item_end_shorter (Ampersand ∷ ts) b h = let e = ap (λ z. length z.1) (ok_same (true, ts) b h) in omega arith
item_end_shorter ts b h =
    elim
    (if_ok (closes ts) (done (false, ts)) (d.stops descent.Unexpected ts) b h) [ inl k ↦ (let e = ap (λ z. length z.1) (ok_same (false, ts) b k.1) in omega arith) | inr k ↦ absurd cc ]

item_turn_sound : (r : Readers) → Sound r → (s : Bool) (k : ℕ) (go_on : Bool → Many t.item → Reader (Many t.item))
    (goes : (f : Bool) (front : Many t.item) (ts : List Lexeme) (x : Many t.item × List Lexeme) → length ts ≤ k → go_on f front ts ≡ Ok x →
    Adds (λ is rest. Phrase (g.items s f) ts is rest) front x)
    (f : Bool) (front : Many t.item) (ts : List Lexeme) (x : Many t.item × List Lexeme) → length ts ≤ suc k → ends s ts ≡ false → d.item_turn r go_on f front ts ≡ Ok x →
    Adds (λ is rest. Phrase (g.items s f) ts is rest) front x
item_turn_sound r sd s k go_on goes f front (Semicolon ∷ ts) x le e h = adds_same _ _ front x (λ is q. g.semicolon_item q) (goes f front ts x (omega arith) h)
item_turn_sound r sd s k go_on goes f front (Newline ∷ ts) x le e h = adds_same _ _ front x (λ is q. g.newline_item q) (goes f front ts x (omega arith) h)
item_turn_sound r sd s k go_on goes f front ts x le e h =
    let w = bind_ok (r (d.a_command f) ts) _ x h in
    let v = bind_ok (d.item_end w.0.1) _ x w.2 in
    let p = sd.command f ts w.0 w.1 in
    let one = Phrase-shorter p in
    let two = item_end_shorter w.0.1 v.0 v.1 in
    adds_more (λ is rest. Phrase (g.items s f) ts is rest) (λ is rest. Phrase (g.items s (not v.0.0 && is_if w.0.0)) v.0.1 is rest) front (t.Item w.0.0 v.0.0) x
    (λ is q. g.one_item e p (item_end_sound s w.0.0 w.0.1 v.0 is x.1 v.1 q))
    (goes (not v.0.0 && is_if w.0.0) (snoc front (t.Item w.0.0 v.0.0)) v.0.1 x (omega arith) v.2)

nothing_ends : (in_switch : Bool) → ends in_switch [] ≡ true
nothing_ends true = refl
nothing_ends false = refl

items_from_sound : (r : Readers) → Sound r → (s : Bool) (k : ℕ) (f : Bool) (front : Many t.item) (ts : List Lexeme) (x : Many t.item × List Lexeme) → length ts ≤ k →
    d.items_from r s k f front ts ≡ Ok x → Adds (λ is rest. Phrase (g.items s f) ts is rest) front x
unfolding d.items_from
items_from_sound r sd s zero f front [] x le h = adds_none _ front [] x (g.no_item (nothing_ends s)) h
items_from_sound r sd s zero f front (l ∷ ts) x le h = absurd (omega arith)
items_from_sound r sd s (suc k) f front ts x le h = elim (if_ok (ends s ts) _ _ x h) [
  | inl b ↦ adds_none _ front ts x (g.no_item b.0) b.1
  | inr b ↦ item_turn_sound r sd s k (λ b is u. d.items_from r s k b is u) (items_from_sound r sd s k) f front ts x le b.0 b.1
]

items_sound : (r : Readers) → Sound r → (s : Bool) (ts : List Lexeme) (x : Many t.item × List Lexeme) → d.items_by r s ts ≡ Ok x → Phrase (g.items s false) ts x.0 x.1
unfolding d.items_by
items_sound r sd s ts x h = all_added (λ is rest. Phrase (g.items s false) ts is rest) x (items_from_sound r sd s (length ts) false none ts x (omega arith) h)

-- what is read with this many levels left is a phrase
pub read_sound : (left : ℕ) → Sound (d.read left)
unfolding d.read d.read_by
read_sound zero = record {
  name = λ ts x h. absurd cc;
  part = λ inside ts x h. absurd cc;
  operand = λ ts x h. absurd cc;
  piped = λ ts x h. absurd cc;
  command = λ f ts x h. absurd cc;
  list = λ s ts x h. absurd cc;
}
read_sound (suc left) =
    let s = read_sound left in
    record {
      name = name_sound (d.read left) s;
      part = part_sound (d.read left) s;
      operand = operand_sound (d.read left) s false;
      piped = piped_sound (d.read left) s;
      command = command_sound (d.read left) s;
      list = items_sound (d.read left) s;
    }
