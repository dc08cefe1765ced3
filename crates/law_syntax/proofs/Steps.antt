-- Steps of the machine, and what joins them.
use Rattle.std.proofs.Common.{◌≡◌, ℕ, Bool, true, false, cond, ◌==◌, ◌||◌, List, [], ◌∷◌, ◌++◌, refl, append_assoc}
use Rattle.std.specs.Prelude.{Ok, Err}
use Rattle.std.proofs.lemmas.Bool.{eqb-true}
use Rattle.rc_model.specs.Syntax.Tokens as t
use Rattle.rc_model.specs.Syntax.Tokens.{Token, PendingHereDoc, Outcome}
use Rattle.rc_model.specs.Mirrors.Reading.{LexerState, AfterCharacter, emit, step, closed, follow, run}
use Rattle.rc_model.specs.declared.syntax.Place.{Place}
use Rattle.rc_model.specs.declared.syntax.Class.{Class}
use Rattle.rc_model.specs.declared.syntax.Class.TheVariants as class

-- the run from a character of this class on
abbrev pub run_at : LexerState → List PendingHereDoc → Place → ℕ → List ℕ → Class → Outcome
run_at s due p c cs k = follow (step s due p c k) (λ s' due'. run s' due' (t.after_char p c) cs)

pub join_nil : (o : Outcome) → t.join [] [] o ≡ o
join_nil (Ok x) = refl
join_nil (Err f) = refl

pub join_join : (ts us : List Token) (bs cs : List (List ℕ)) (o : Outcome) → t.join (ts ++ us) (bs ++ cs) o ≡ t.join ts bs (t.join us cs o)
join_join ts us bs cs (Ok x) = cong_pair (append_assoc ts us x.0) (append_assoc bs cs x.1)
  where
    cong_pair : {ts' us' : List Token} {bs' cs' : List (List ℕ)} → ts' ≡ us' → bs' ≡ cs' → ◌≡◌ {A = Outcome} (Ok (ts', bs')) (Ok (us', cs'))
    cong_pair e f = cc
join_join ts us bs cs (Err f) = refl

pub join_tokens : (ts us : List Token) (o : Outcome) → t.join (ts ++ us) [] o ≡ t.join ts [] (t.join us [] o)
join_tokens ts us o = join_join ts us [] [] o

pub follow_emit : (ts : List Token) (x : AfterCharacter) (f : LexerState → List PendingHereDoc → Outcome) → follow (emit ts x) f ≡ t.join ts [] (follow x f)
follow_emit ts (Ok x) f = join_join ts x.0 [] x.1 (f x.2 x.3)
follow_emit ts (Err e) f = refl

pub join_closed : (ts us : List Token) (bodies : List (List ℕ)) (due : List PendingHereDoc) → t.join ts [] (closed us bodies due) ≡ closed (ts ++ us) bodies due
join_closed ts us bodies [] = refl
join_closed ts us bodies (d ∷ due) = refl

pub after_append : (p : Place) (xs ys : List ℕ) → t.after_chars p (xs ++ ys) ≡ t.after_chars (t.after_chars p xs) ys
after_append p [] ys = refl
after_append p (x ∷ xs) ys = after_append (t.after_char p x) xs ys

-- what is known of a character by its class
pick_quote : (a b c d e f : Bool) →
    cond a class.Operates (cond b class.Blank (cond c class.LineEnd (cond d class.Hash (cond e class.Quote (cond f class.Backslash class.Ordinary))))) ≡ class.Quote → e ≡ true
pick_quote true b c d e f h = absurd cc
pick_quote false true c d e f h = absurd cc
pick_quote false false true d e f h = absurd cc
pick_quote false false false true e f h = absurd cc
pick_quote false false false false true f h = refl
pick_quote false false false false false true h = absurd cc
pick_quote false false false false false false h = absurd cc

pick_line_end : (a b c d e f : Bool) →
    cond a class.Operates (cond b class.Blank (cond c class.LineEnd (cond d class.Hash (cond e class.Quote (cond f class.Backslash class.Ordinary))))) ≡ class.LineEnd → c ≡ true
pick_line_end true b c d e f h = absurd cc
pick_line_end false true c d e f h = absurd cc
pick_line_end false false true d e f h = refl
pick_line_end false false false true e f h = absurd cc
pick_line_end false false false false true f h = absurd cc
pick_line_end false false false false false true h = absurd cc
pick_line_end false false false false false false h = absurd cc

pick_hash : (a b c d e f : Bool) →
    cond a class.Operates (cond b class.Blank (cond c class.LineEnd (cond d class.Hash (cond e class.Quote (cond f class.Backslash class.Ordinary))))) ≡ class.Hash → d ≡ true
pick_hash true b c d e f h = absurd cc
pick_hash false true c d e f h = absurd cc
pick_hash false false true d e f h = absurd cc
pick_hash false false false true e f h = refl
pick_hash false false false false true f h = absurd cc
pick_hash false false false false false true h = absurd cc
pick_hash false false false false false false h = absurd cc

pick_backslash : (a b c d e f : Bool) →
    cond a class.Operates (cond b class.Blank (cond c class.LineEnd (cond d class.Hash (cond e class.Quote (cond f class.Backslash class.Ordinary))))) ≡ class.Backslash → f ≡ true
pick_backslash true b c d e f h = absurd cc
pick_backslash false true c d e f h = absurd cc
pick_backslash false false true d e f h = absurd cc
pick_backslash false false false true e f h = absurd cc
pick_backslash false false false false true f h = absurd cc
pick_backslash false false false false false true h = refl
pick_backslash false false false false false false h = absurd cc

pick_operates : (a b c d e f : Bool) →
    cond a class.Operates (cond b class.Blank (cond c class.LineEnd (cond d class.Hash (cond e class.Quote (cond f class.Backslash class.Ordinary))))) ≡ class.Operates → a ≡ true
pick_operates true b c d e f h = refl
pick_operates false true c d e f h = absurd cc
pick_operates false false true d e f h = absurd cc
pick_operates false false false true e f h = absurd cc
pick_operates false false false false true f h = absurd cc
pick_operates false false false false false true h = absurd cc
pick_operates false false false false false false h = absurd cc

pub quote_is : (c : ℕ) → t.class_of c ≡ class.Quote → c ≡ 39
quote_is c h = eqb-true c 39 (pick_quote (t.begins_operator (c ∷ [])) ((c == 32) || (c == 9)) (c == 10) (c == 35) (c == 39) (c == 92) h)

pub line_end_is : (c : ℕ) → t.class_of c ≡ class.LineEnd → c ≡ 10
line_end_is c h = eqb-true c 10 (pick_line_end (t.begins_operator (c ∷ [])) ((c == 32) || (c == 9)) (c == 10) (c == 35) (c == 39) (c == 92) h)

pub hash_is : (c : ℕ) → t.class_of c ≡ class.Hash → c ≡ 35
hash_is c h = eqb-true c 35 (pick_hash (t.begins_operator (c ∷ [])) ((c == 32) || (c == 9)) (c == 10) (c == 35) (c == 39) (c == 92) h)

pub backslash_is : (c : ℕ) → t.class_of c ≡ class.Backslash → c ≡ 92
backslash_is c h = eqb-true c 92 (pick_backslash (t.begins_operator (c ∷ [])) ((c == 32) || (c == 9)) (c == 10) (c == 35) (c == 39) (c == 92) h)

pub operates_is : (c : ℕ) → t.class_of c ≡ class.Operates → t.begins_operator (c ∷ []) ≡ true
operates_is c h = pick_operates (t.begins_operator (c ∷ [])) ((c == 32) || (c == 9)) (c == 10) (c == 35) (c == 39) (c == 92) h
