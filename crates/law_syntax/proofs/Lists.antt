-- Lists of nodes, and what is read in steps.
use Rattle.std.proofs.Common.{◌≡◌, suc, Bool, true, false, List, Result, Ok, Err, ◌⊎◌, inl, inr, if◌then◌else◌, refl, sym, ap, subst, ◌∙◌}
use Rattle.rc_model.specs.Syntax.Tokens.{Lexeme}
use Rattle.rc_model.specs.Syntax.Tree.{Sort, Node, Many, none, more, count, snoc}
use Rattle.rc_model.specs.Mirrors.Descent.{◌>>=◌, Stop}
use Rattle.rc_model.specs.declared.fault.DescentFault.{DescentFault}

-- one list of nodes after another
abbrev pub append : {s : Sort} → Many s → Many s → Many s
append none ys = ys
append (more x xs) ys = more x (append xs ys)

pub append_snoc : {s : Sort} (xs : Many s) (n : Node s) (ys : Many s) → append (snoc xs n) ys ≡ append xs (more n ys)
append_snoc none n ys = refl
append_snoc (more x xs) n ys = ap (more x) (append_snoc xs n ys)

pub append_none : {s : Sort} (xs : Many s) → append xs none ≡ xs
append_none none = refl
append_none (more x xs) = ap (more x) (append_none xs)

pub count_snoc : {s : Sort} (xs : Many s) (n : Node s) → count (snoc xs n) ≡ suc (count xs)
count_snoc none n = refl
count_snoc (more x xs) n = ap suc (count_snoc xs n)

abbrev pub or_else : {A : Type 0} → Result A Stop → A → A
or_else (Ok x) d = x
or_else (Err e) d = d

-- what is read with no further step
abbrev pub done : {A : Type 0} → A → Result A Stop
done x = Ok x

pub ok_same : {A : Type 0} (x y : A) → done x ≡ Ok y → x ≡ y
ok_same x y h = ap (λ r. or_else r x) h

-- the fault of what was read
abbrev pub fault_or : {A : Type 0} → Result A Stop → DescentFault → DescentFault
fault_or (Ok x) d = d
fault_or (Err e) d = e.0

pub same_fault : {A : Type 0} (e f : Stop) → ◌≡◌ {A = Result A Stop} (Err e) (Err f) → e.0 ≡ f.0
same_fault e f h = ap (λ r. fault_or r e.0) h

-- a value that was read in two steps
pub bind_ok : {A B : Type 0} (o : Result A Stop) (f : A → Result B Stop) (y : B) → (o >>= f) ≡ Ok y → (x : A) × (o ≡ Ok x) × (f x ≡ Ok y)
bind_ok (Ok x) f y h = (x, refl, h)
bind_ok (Err e) f y h = absurd cc

-- a value of one of two branches
pub if_ok : {B : Type 0} (b : Bool) (r s : Result B Stop) (y : B) → (if b then r else s) ≡ Ok y → ((b ≡ true) × (r ≡ Ok y)) ⊎ ((b ≡ false) × (s ≡ Ok y))
if_ok true r s y h = inl (refl, h)
if_ok false r s y h = inr (refl, h)

-- what was read is in front, and then what a phrase adds
pub record Adds {s : Sort} (P : Many s → List Lexeme → Type 0) (front : Many s) (x : Many s × List Lexeme) : Type 0 where
  pub added : Many s
  pub whole : x.0 ≡ append front added
  pub phrase : P added x.1

pub adds_none : {s : Sort} (P : Many s → List Lexeme → Type 0) (front : Many s) (ts : List Lexeme) (x : Many s × List Lexeme) → P none ts → done (front, ts) ≡ Ok x → Adds P front x
adds_none P front ts x p h =
    let e = ok_same (front, ts) x h in
    record { added = none; whole = sym (ap (λ z. z.0) e) ∙ sym (append_none front); phrase = subst (λ z. P none z.1) e p }

pub adds_more : {s : Sort} (P Q : Many s → List Lexeme → Type 0) (front : Many s) (n : Node s) (x : Many s × List Lexeme) → ((as' : Many s) → Q as' x.1 → P (more n as') x.1) →
    Adds Q (snoc front n) x → Adds P front x
adds_more P Q front n x f a = record { added = more n a.added; whole = a.whole ∙ append_snoc front n a.added; phrase = f a.added a.phrase }

pub adds_same : {s : Sort} (P Q : Many s → List Lexeme → Type 0) (front : Many s) (x : Many s × List Lexeme) → ((as' : Many s) → Q as' x.1 → P as' x.1) → Adds Q front x → Adds P front x
adds_same P Q front x f a = record { added = a.added; whole = a.whole; phrase = f a.added a.phrase }

-- with nothing in front
pub all_added : {s : Sort} (P : Many s → List Lexeme → Type 0) (x : Many s × List Lexeme) → Adds P none x → P x.0 x.1
all_added P x a = subst (λ z. P z x.1) (sym a.whole) a.phrase
