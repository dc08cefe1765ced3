-- Lists of commands and the branches of a switch are read again where they are printed.
use Rattle.std.proofs.Common.{◌≡◌, refl, sym, ap, ◌∙◌, Bool, true, false, if◌then◌else◌, List, [], ◌∷◌, ◌++◌, append_assoc, append-nil, codes}
use Rattle.rc_model.specs.Syntax.Tokens.{Lexeme, Word, Semicolon, Ampersand, RightBrace, RightParen}
use Rattle.rc_model.specs.Syntax.Tree.{Node, Many, none, more}
use Rattle.rc_model.specs.Syntax.Tree as t
use Rattle.rc_model.specs.Syntax.Grammar.{Phrase, ends, is_if}
use Rattle.rc_model.specs.Syntax.Grammar as g
use Rattle.law_print.specs.Lexemes.{LexemeLine, listed, cmd_lexemes, args_lexemes, item_lines, branch_lines}
use Rattle.law_print.proofs.Follows.{end_apart, Closing, at_paren, at_brace, Ends, at_close, at_semicolon, at_ampersand, closing_closes, open_on, opened}
use Rattle.law_print.proofs.Arguments.{at, PrintsArgs, words_print}
use Rattle.law_print.proofs.Commands.{PrintsBrace, PrintsParen, PrintsBranches}
use Rattle.law_print.proofs.Forms.{PrintsCommand, free_args}

-- The items of a list, with lines after them: none, or those of further branches.
abbrev pub PrintsItems : (in_switch after_if : Bool) → Many t.item → Type 0
PrintsItems in_switch after_if is = (lines : List LexemeLine) (end : List Lexeme) → Closing end → ends in_switch (listed lines ++ end) ≡ true →
    Phrase (g.items in_switch after_if) (listed (item_lines is in_switch in_switch ++ lines) ++ end) is (listed lines ++ end)

pub no_items : (in_switch after_if : Bool) → PrintsItems in_switch after_if none
unfolding item_lines
no_items in_switch after_if lines end e h = g.no_item h

-- what is after a background line, and after another one
background_line : (text : List Lexeme) (lines : List LexemeLine) (end : List Lexeme) →
    listed ((text, true) ∷ lines) ++ end ≡ text ++ (Ampersand ∷ (listed lines ++ end))
background_line text [] end = append_assoc text (Ampersand ∷ []) end
background_line text (l ∷ ls) end =
    append_assoc (text ++ Ampersand ∷ []) (listed (l ∷ ls)) end ∙ append_assoc text (Ampersand ∷ []) (listed (l ∷ ls) ++ end)

line_before : (text : List Lexeme) (l : LexemeLine) (ls : List LexemeLine) (end : List Lexeme) →
    listed ((text, false) ∷ l ∷ ls) ++ end ≡ text ++ (Semicolon ∷ (listed (l ∷ ls) ++ end))
line_before text l ls end = append_assoc text (Semicolon ∷ listed (l ∷ ls)) end

-- the flag after an item
abbrev pub flag : (background after_if : Bool) → Bool
flag background after_if = if background then false else after_if

-- what is printed after an item
record After (in_switch after_if background : Bool) (text : List Lexeme) (is : Many t.item) (lines : List LexemeLine) (end : List Lexeme) : Type 0 where
  follow : List Lexeme
  stops : Ends follow
  same : listed ((text, background) ∷ (item_lines is in_switch in_switch ++ lines)) ++ end ≡ text ++ follow
  phrase : Phrase (g.after in_switch after_if) follow (background, is) (listed lines ++ end)

after_line : (in_switch after_if : Bool) (text : List Lexeme) (is : Many t.item) (lines : List LexemeLine) (end : List Lexeme) → Closing end →
    Phrase (g.items in_switch after_if) (listed (item_lines is in_switch in_switch ++ lines) ++ end) is (listed lines ++ end) →
    After in_switch after_if false text is lines end
unfolding item_lines
after_line in_switch after_if text none [] end e p =
    record { follow = end; stops = at_close e; same = refl; phrase = g.after_last (closing_closes e) }
after_line in_switch after_if text none (l ∷ ls) end e p =
    record { follow = Semicolon ∷ (listed (l ∷ ls) ++ end); stops = at_semicolon; same = line_before text l ls end; phrase = g.after_semicolon p }
after_line in_switch after_if text (more (t.Item c b) is) lines end e p = record {
  follow = Semicolon ∷ (listed (item_lines (more (t.Item c b) is) in_switch in_switch ++ lines) ++ end);
  stops = at_semicolon;
  same = line_before text (cmd_lexemes c in_switch, b) (item_lines is in_switch in_switch ++ lines) end;
  phrase = g.after_semicolon p;
}

after_item : (in_switch after_if background : Bool) (text : List Lexeme) (is : Many t.item) (lines : List LexemeLine) (end : List Lexeme) → Closing end →
    Phrase (g.items in_switch (flag background after_if)) (listed (item_lines is in_switch in_switch ++ lines) ++ end) is (listed lines ++ end) →
    After in_switch after_if background text is lines end
after_item in_switch after_if true text is lines end e p = record {
  follow = Ampersand ∷ (listed (item_lines is in_switch in_switch ++ lines) ++ end);
  stops = at_ampersand;
  same = background_line text (item_lines is in_switch in_switch ++ lines) end;
  phrase = g.after_background p;
}
after_item in_switch after_if false text is lines end e p = after_line in_switch after_if text is lines end e p

pub more_items : (in_switch after_if background : Bool) (c : Node t.cmd) (is : Many t.item) → PrintsCommand after_if in_switch c →
    PrintsItems in_switch (flag background (is_if c)) is → PrintsItems in_switch after_if (more (t.Item c background) is)
unfolding item_lines
more_items in_switch after_if background c is p q lines end e h =
    let after = after_item in_switch (is_if c) background (cmd_lexemes c in_switch) is lines end e (q lines end e h) in
    at after.same (g.one_item {x = (background, is)} (opened (open_on after.follow p.opens)).goes_on (p.phrase after.follow after.stops) after.phrase)

-- lists in braces and in parentheses, and whole scripts
all_items : (is : Many t.item) (end : List Lexeme) →
    listed (item_lines is false false ++ []) ++ end ≡ listed (item_lines is false false) ++ end
all_items is end = ap (λ z. listed z ++ end) (append-nil (item_lines is false false))

pub list_print : (is : Many t.item) (end : List Lexeme) → Closing end → PrintsItems false false is →
    Phrase (g.items false false) (cmd_lexemes (t.Seq is) false ++ end) is end
unfolding cmd_lexemes
list_print is end e p = at (sym (all_items is end)) (p [] end e (closing_closes e))

pub brace_print : (is : Many t.item) → PrintsItems false false is → PrintsBrace (t.Seq is)
brace_print is p rest = g.braced (list_print is (RightBrace ∷ rest) at_brace p)

pub paren_print : (is : Many t.item) → PrintsItems false false is → PrintsParen (t.Seq is)
paren_print is p rest = g.parenthesised (list_print is (RightParen ∷ rest) at_paren p)

-- branches
pub record PrintsCases (bs : Many t.branch) : Type 0 where
  pub phrase : PrintsBranches bs
  pub begins : (rest : List Lexeme) → ends true (listed (branch_lines bs) ++ (RightBrace ∷ rest)) ≡ true

pub no_cases : PrintsCases none
unfolding branch_lines
no_cases = record { phrase = λ rest. g.no_branch; begins = λ rest. refl }

case_line : Many t.arg → LexemeLine
case_line as' = (Word (codes "case") ∷ args_lexemes as', false)

case_begins : (as' : Many t.arg) (lines : List LexemeLine) (end : List Lexeme) → ends true (listed (case_line as' ∷ lines) ++ end) ≡ true
unfolding case_line
case_begins as' [] end = refl
case_begins as' (l ∷ ls) end = refl

case_print : (as' : Many t.arg) (is : Many t.item) (bs : Many t.branch) (lines : List LexemeLine) (next rest : List Lexeme) → PrintsArgs as' →
    Phrase (g.items true false) (listed lines ++ (RightBrace ∷ rest)) is next → Phrase g.branches next bs (RightBrace ∷ rest) →
    Phrase g.branches (listed (case_line as' ∷ lines) ++ (RightBrace ∷ rest)) (more (t.Branch as' (t.Seq is)) bs) (RightBrace ∷ rest)
unfolding case_line
case_print as' is bs [] next rest p q r =
    let end : List Lexeme = RightBrace ∷ rest in
    g.one_branch {ts = args_lexemes as' ++ end} {mid = end} refl (at (free_args as' p end refl) (words_print as' p end (end_apart (at_close at_brace)) refl)) refl q r
case_print as' is bs (l ∷ ls) next rest p q r =
    let mid : List Lexeme = Semicolon ∷ (listed (l ∷ ls) ++ (RightBrace ∷ rest)) in
    at (ap (λ z. Word (codes "case") ∷ z) (append_assoc (args_lexemes as') (Semicolon ∷ listed (l ∷ ls)) (RightBrace ∷ rest)))
    (g.one_branch {ts = args_lexemes as' ++ mid} {mid = mid} refl (at (free_args as' p mid refl) (words_print as' p mid (end_apart at_semicolon) refl)) refl
    (g.semicolon_item q) r)

pub more_cases : (as' : Many t.arg) (is : Many t.item) (bs : Many t.branch) → PrintsArgs as' → PrintsItems true false is → PrintsCases bs →
    PrintsCases (more (t.Branch as' (t.Seq is)) bs)
unfolding branch_lines case_line
more_cases as' is bs p q r = record {
  phrase = λ rest. case_print as' is bs (item_lines is true true ++ branch_lines bs) (listed (branch_lines bs) ++ (RightBrace ∷ rest)) rest p
      (q (branch_lines bs) (RightBrace ∷ rest) at_brace (r.begins rest)) (r.phrase rest);
  begins = λ rest. case_begins as' (item_lines is true true ++ branch_lines bs) (RightBrace ∷ rest);
}
