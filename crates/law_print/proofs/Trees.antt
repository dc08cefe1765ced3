-- The text of a tree that can be written has the lexemes of the tree.
use Rattle.std.proofs.Common.{◌≡◌, refl, ap, sym, subst, ℕ, Bool, true, false, ◌==◌, if◌then◌else◌, List, [], ◌∷◌, ◌++◌, codes, arith}
use Rattle.std.proofs.Common.{append_assoc, append-nil}
use Rattle.std.proofs.lemmas.Bool.Decides.{nat_tests}
use Rattle.std.specs.List.{flat_map}
use Rattle.rc_model.specs.declared.call.Mode.{Mode}
use Rattle.rc_model.specs.declared.call.Mode.TheVariants.{Read, Write, Append}
use Rattle.rc_model.specs.Syntax.Tree.{Node, Many, none, more}
use Rattle.rc_model.specs.declared.syntax.Logic.{Logic}
use Rattle.rc_model.specs.declared.syntax.Logic.TheVariants.{And, Or}
use Rattle.rc_model.specs.Syntax.Tree as t
use Rattle.rc_model.specs.Syntax.Tokens.{Lexeme}
use Rattle.rc_model.specs.Syntax.Tokens as k
use Rattle.rc_model.specs.Syntax.WellFormed.{is_output, opens, copies}
use Rattle.rc_model.specs.Syntax.Text.{joined, spaced}
use Rattle.rc_model.specs.Syntax.Printing.{stands_first, cmd_text, arg_text, redir_text, arg_texts, pair_texts, redir_texts, stages_text, links_text}
use Rattle.rc_model.specs.Syntax.Tree.{is_empty}
use Rattle.rc_model.specs.Syntax.Printing as p
use Rattle.law_print.specs.Lexemes.{IsWritable, IsWritableName, AreWritable, cmd_lexemes, arg_lexemes}
use Rattle.law_print.specs.Lexemes.{name_lexemes, redir_lexemes}
use Rattle.law_print.specs.Lexemes.{args_lexemes, first_part, further_parts, pairs_lexemes, redirs_lexemes, stages_lexemes, links_lexemes}
use Rattle.law_print.specs.Lexemes as x
use Rattle.law_print.proofs.Pieces.{Piece, IsApart, IsCalm, Anything, Ends, followed, settled, empty, nothing_yet, Tail, no_tail, marked}
use Rattle.law_print.proofs.Pieces.{both, tailed, led, between}
use Rattle.law_print.proofs.Words.{word_piece, case_word}
use Rattle.law_print.proofs.Quotes.{quoted_piece}
use Rattle.law_print.proofs.Names.{NamePiece, bare_name, quoted_name, named_name, var_piece, count_piece, flat_piece, subscript_piece}
use Rattle.law_print.proofs.Lines.{Lines, no_lines, line, lines_append, listed_piece, body_of}
use Rattle.law_print.proofs.Marks as marks
use Rattle.law_print.proofs.Keywords as keywords
use Rattle.law_print.proofs.Operators as operators
use Rattle.rc_model.specs.declared.syntax.Previous.{Previous}

retext : {A B : Previous → Type 0} {F : List ℕ → Type 0} {a b : List ℕ} {ls : List Lexeme} → a ≡ b → Piece A B F a ls → Piece A B F b ls
retext {A} {B} {F} {a} {b} {ls} e q = subst (λ w. Piece A B F w ls) e q

relex : {A B : Previous → Type 0} {F : List ℕ → Type 0} {a : List ℕ} {ls ms : List Lexeme} → ls ≡ ms → Piece A B F a ls → Piece A B F a ms
relex {A} {B} {F} {a} {ls} {ms} e q = subst (λ w. Piece A B F a w) e q

sign_piece : (l : Logic) → Piece IsCalm IsApart Anything (p.sign l) (x.sign l ∷ [])
sign_piece And = operators.and_and
sign_piece Or = operators.or_or

sign_ends : (l : Logic) (rest : List ℕ) → Ends ((sign_piece l).chars ++ rest)
unfolding sign_piece
sign_ends And rest = operators.and_and_ends rest
sign_ends Or rest = operators.or_or_ends rest

output_case : (P : ℕ → Type 0) (slot : ℕ) → is_output slot ≡ true → P 1 → P 2 → P slot
output_case P slot o one two = go (slot == 2) refl
  where
    go : (q : Bool) → (slot == 2) ≡ q → P slot
    go true e = let same : slot ≡ 2 = grind (arith, nat_tests) in subst P (sym same) two
    go false e = let same : slot ≡ 1 = grind (arith, nat_tests) in subst P (sym same) one

bar_piece : (slot : ℕ) → is_output slot ≡ true → (q : Piece IsCalm IsApart Anything (p.bar slot) (k.Bar slot ∷ [])) × ((rest : List ℕ) → Ends (q.chars ++ rest))
bar_piece slot o =
    output_case (λ s. (q : Piece IsCalm IsApart Anything (p.bar s) (k.Bar s ∷ [])) × ((rest : List ℕ) → Ends (q.chars ++ rest))) slot o
    (operators.bar_one, operators.bar_one_ends) (operators.bar_two, operators.bar_two_ends)

opening_piece : (m : Mode) (slot : ℕ) → opens m slot ≡ true → Piece IsApart IsApart Anything (p.opening m slot) (k.Redirection m slot ∷ [])
opening_piece Read slot o =
    let same : slot ≡ 0 = grind (arith, nat_tests) in
    subst (λ s. Piece IsApart IsApart Anything (p.opening Read s) (k.Redirection Read s ∷ [])) (sym same) operators.read_open
opening_piece Write slot o =
    output_case (λ s. Piece IsApart IsApart Anything (p.opening Write s) (k.Redirection Write s ∷ [])) slot o operators.write_open operators.write_open_two
opening_piece Append slot o =
    output_case (λ s. Piece IsApart IsApart Anything (p.opening Append s) (k.Redirection Append s ∷ [])) slot o operators.append_open operators.append_open_two

copying_piece : (to from : ℕ) → copies to from ≡ true → Piece IsApart IsApart Anything (p.copying to from) (k.CopyTo to from ∷ [])
copying_piece to from o = go (to == 2) refl
  where
    go : (q : Bool) → (to == 2) ≡ q → Piece IsApart IsApart Anything (p.copying to from) (k.CopyTo to from ∷ [])
    go true e =
        let two : to ≡ 2 = grind (arith, nat_tests) in
        let one : from ≡ 1 = grind (arith, nat_tests) in
        subst (λ s. Piece IsApart IsApart Anything (p.copying s from) (k.CopyTo s from ∷ [])) (sym two)
        (subst (λ s. Piece IsApart IsApart Anything (p.copying 2 s) (k.CopyTo 2 s ∷ [])) (sym one) operators.copy_to_two)
    go false e =
        let one : to ≡ 1 = grind (arith, nat_tests) in
        let two : from ≡ 2 = grind (arith, nat_tests) in
        subst (λ s. Piece IsApart IsApart Anything (p.copying s from) (k.CopyTo s from ∷ [])) (sym one)
        (subst (λ s. Piece IsApart IsApart Anything (p.copying 1 s) (k.CopyTo 1 s ∷ [])) (sym two) operators.copy_to_one)

assigned_piece : (e : Bool) (ps : List (List ℕ)) {text : List ℕ} {ls ms : List Lexeme} → Piece IsApart IsCalm Ends (spaced ps) ls →
    Piece IsApart IsCalm Ends text ms →
    Piece IsApart IsCalm Ends (if e then spaced ps else spaced ps ++ (codes " " ++ text)) (if e then ls else ls ++ ms)
assigned_piece true ps q r = q
assigned_piece false ps q r = between q marks.space marks.space_ends r (λ rest e. tt)

redirected_piece : (e s : Bool) (rs : List (List ℕ)) {text : List ℕ} {ls ms : List Lexeme} → Piece IsApart IsCalm Ends (spaced rs) ls →
    Tail (flat_map (λ r. codes " " ++ r) rs) ls → Piece IsApart IsApart Anything (flat_map (λ r. r ++ codes " ") rs) ls → Piece IsApart IsCalm Ends text ms →
    Piece IsApart IsCalm Ends
    (if e then spaced rs else (if s then text ++ flat_map (λ r. codes " " ++ r) rs else flat_map (λ r. r ++ codes " ") rs ++ text))
    (if e then ls else (if s then ms ++ ls else ls ++ ms))
redirected_piece true s rs alone tail before body = alone
redirected_piece false true rs alone tail before body = tailed body tail
redirected_piece false false rs alone tail before body = led before body

mutual
  unfolding cmd_text arg_text redir_text arg_texts pair_texts redir_texts stages_text links_text p.item_lines p.branch_lines p.branch_items
      cmd_lexemes arg_lexemes name_lexemes redir_lexemes args_lexemes first_part further_parts pairs_lexemes redirs_lexemes stages_lexemes links_lexemes
      x.item_lines x.branch_lines x.branch_items IsWritable IsWritableName AreWritable

  pub cmd_piece : (c : Node t.cmd) (begins : Bool) → IsWritable c → Piece IsApart IsCalm Ends (cmd_text c begins) (cmd_lexemes c begins)
  cmd_piece t.Empty begins w = empty
  cmd_piece (t.Seq items) begins w = listed_piece (items_lines items begins false w)
  cmd_piece (t.Simple words) begins w = args_piece words w
  cmd_piece (t.Assign pairs body) begins w = assigned_piece (is_empty body) (pair_texts pairs) (pairs_piece pairs w.0) (cmd_piece body false w.1)
  cmd_piece (t.Redirect redirs body) begins w =
      redirected_piece (is_empty body) (stands_first body begins) (redir_texts redirs) (redirs_piece redirs w.0) (redirs_tail redirs w.0)
      (redirs_before redirs w.0) (cmd_piece body false w.1)
  cmd_piece (t.Pipeline stages last) begins w = led (stages_piece stages begins w.0) (cmd_piece last false w.1)
  cmd_piece (t.AndOr first links) begins w = tailed (cmd_piece first begins w.0) (links_tail links w.1)
  cmd_piece (t.Not body) begins w = led keywords.bang (cmd_piece body false w)
  cmd_piece (t.Subshell body) begins w = led keywords.at (cmd_piece body false w)
  cmd_piece (t.If condition body) begins w =
      led keywords.if_paren (between (cmd_piece condition false w.0) marks.close_head marks.close_head_ends (cmd_piece body false w.1) (λ rest e. tt))
  cmd_piece (t.IfNot body) begins w = led keywords.if_not (cmd_piece body false w)
  cmd_piece (t.While condition body) begins w =
      led keywords.while_paren (between (cmd_piece condition false w.0) marks.close_head marks.close_head_ends (cmd_piece body false w.1) (λ rest e. tt))
  cmd_piece (t.ForAll name body) begins w =
      led keywords.for_paren (between (arg_piece name w.0) marks.close_head marks.close_head_ends (cmd_piece body false w.1) (λ rest e. tt))
  cmd_piece (t.For name words body) begins w =
      led keywords.for_paren (between (arg_piece name w.0) keywords.in_word keywords.in_word_ends
      (between (args_piece words w.1.0) marks.close_head marks.close_head_ends (cmd_piece body false w.1.1) (λ rest e. tt)) (λ rest e. tt))
  cmd_piece (t.Switch subject branches) begins w =
      settled (led keywords.switch_word (between (arg_piece subject w.0) marks.brace_after marks.brace_after_ends
      (followed (listed_piece (branches_lines branches w.1)) marks.close_brace (λ rest e. marks.close_brace_ends rest)) (λ rest e. tt)))
  cmd_piece (t.Match subject patterns) begins w = led keywords.match_word (tailed (arg_piece subject w.0) (args_tail patterns w.1))
  cmd_piece (t.Define names body) begins w =
      settled (led keywords.fn_word (between (args_piece names w.0) marks.brace_after marks.brace_after_ends
      (followed (cmd_piece body false w.1) marks.close_brace (λ rest e. marks.close_brace_ends rest)) (λ rest e. tt)))
  cmd_piece (t.Undefine names) begins w = led keywords.fn_word (args_piece names w)
  cmd_piece (t.Brace body) begins w = settled (led marks.open_brace (followed (cmd_piece body false w) marks.close_brace (λ rest e. marks.close_brace_ends rest)))

  pub arg_piece : (a : Node t.arg) → IsWritable a → Piece IsApart IsCalm Ends (arg_text a) (arg_lexemes a)
  arg_piece (t.Lit text true) w = quoted_piece text w.0 w.1
  arg_piece (t.Lit text false) w = word_piece text w.0.0 w.0.1 w.1.0 w.1.1
  arg_piece (t.Concat parts) w = parts_piece parts w
  arg_piece (t.Paren words) w = settled (led marks.open_paren (followed (args_piece words w) marks.close_paren (λ rest e. marks.close_paren_ends rest)))
  arg_piece (t.Var name) w = var_piece (name_piece name w)
  arg_piece (t.Count name) w = count_piece (name_piece name w)
  arg_piece (t.Flat name) w = flat_piece (name_piece name w)
  arg_piece (t.Sub name subscripts) w =
      retext (ap (λ l. 36 ∷ l) (append_assoc (arg_text name) (codes "(") (spaced (arg_texts subscripts) ++ codes ")")))
      (settled (led (subscript_piece (name_piece name w.0)) (followed (args_piece subscripts w.1) marks.close_paren (λ rest e. marks.close_paren_ends rest))))
  arg_piece (t.Back body) w = settled (led marks.back_brace (followed (cmd_piece body false w) marks.close_brace (λ rest e. marks.close_brace_ends rest)))

  name_piece : (a : Node t.arg) → IsWritableName a → NamePiece (arg_text a) (name_lexemes a)
  name_piece (t.Lit text true) w = quoted_name text w.0 w.1
  name_piece (t.Lit text false) w = bare_name text w.0 w.1
  name_piece (t.Var name) w = named_name (name_piece name w)
  name_piece (t.Concat parts) w = absurd w
  name_piece (t.Paren words) w = absurd w
  name_piece (t.Count name) w = absurd w
  name_piece (t.Flat name) w = absurd w
  name_piece (t.Sub name subscripts) w = absurd w
  name_piece (t.Back body) w = absurd w

  redir_piece : (r : Node t.redir) → IsWritable r → Piece IsApart IsCalm Ends (redir_text r) (redir_lexemes r)
  redir_piece (t.Open mode slot path) w = led (opening_piece mode slot w.0) (arg_piece path w.1)
  redir_piece (t.Copy to from) w = settled (copying_piece to from w)
  redir_piece (t.Here pieces) w = empty

  args_piece : (ws : Many t.arg) → AreWritable ws → Piece IsApart IsCalm Ends (spaced (arg_texts ws)) (args_lexemes ws)
  args_piece none w = empty
  args_piece (more a as') w = tailed (arg_piece a w.0) (args_tail as' w.1)

  args_tail : (ws : Many t.arg) → AreWritable ws → Tail (flat_map (λ u. codes " " ++ u) (arg_texts ws)) (args_lexemes ws)
  args_tail none w = no_tail
  args_tail (more a as') w = both (marked marks.space marks.space_ends (arg_piece a w.0)) (args_tail as' w.1)

  parts_piece : (ws : Many t.arg) → AreWritable ws → Piece IsApart IsCalm Ends (joined (codes "^") (arg_texts ws)) (first_part ws)
  parts_piece none w = empty
  parts_piece (more a as') w = tailed (arg_piece a w.0) (parts_tail as' w.1)

  parts_tail : (ws : Many t.arg) → AreWritable ws → Tail (flat_map (λ u. codes "^" ++ u) (arg_texts ws)) (further_parts ws)
  parts_tail none w = no_tail
  parts_tail (more a as') w = both (marked marks.caret marks.caret_ends (arg_piece a w.0)) (parts_tail as' w.1)

  pairs_piece : (ps : Many t.pair) → AreWritable ps → Piece IsApart IsCalm Ends (spaced (pair_texts ps)) (pairs_lexemes ps)
  pairs_piece none w = empty
  pairs_piece (more (t.Pair n v) ps) w = tailed (between (arg_piece n w.0.0) marks.equals marks.equals_ends (arg_piece v w.0.1) (λ rest e. tt)) (pairs_tail ps w.1)

  pairs_tail : (ps : Many t.pair) → AreWritable ps → Tail (flat_map (λ u. codes " " ++ u) (pair_texts ps)) (pairs_lexemes ps)
  pairs_tail none w = no_tail
  pairs_tail (more (t.Pair n v) ps) w =
      both (marked marks.space marks.space_ends (between (arg_piece n w.0.0) marks.equals marks.equals_ends (arg_piece v w.0.1) (λ rest e. tt))) (pairs_tail ps w.1)

  redirs_piece : (rs : Many t.redir) → AreWritable rs → Piece IsApart IsCalm Ends (spaced (redir_texts rs)) (redirs_lexemes rs)
  redirs_piece none w = empty
  redirs_piece (more r rs) w = tailed (redir_piece r w.0) (redirs_tail rs w.1)

  redirs_tail : (rs : Many t.redir) → AreWritable rs → Tail (flat_map (λ u. codes " " ++ u) (redir_texts rs)) (redirs_lexemes rs)
  redirs_tail none w = no_tail
  redirs_tail (more r rs) w = both (marked marks.space marks.space_ends (redir_piece r w.0)) (redirs_tail rs w.1)

  redirs_before : (rs : Many t.redir) → AreWritable rs → Piece IsApart IsApart Anything (flat_map (λ r. r ++ codes " ") (redir_texts rs)) (redirs_lexemes rs)
  redirs_before none w = nothing_yet
  redirs_before (more r rs) w =
      relex (ap (λ l. l ++ redirs_lexemes rs) (append-nil (redir_lexemes r)))
      (led (followed (redir_piece r w.0) marks.space (λ rest e. marks.space_ends rest)) (redirs_before rs w.1))

  stages_piece : (ss : Many t.stage) (begins : Bool) → AreWritable ss → Piece IsApart IsApart Anything (stages_text ss begins) (stages_lexemes ss begins)
  stages_piece none begins w = nothing_yet
  stages_piece (more (t.Stage body slot) ss) begins w =
      between (cmd_piece body begins w.0.1) (bar_piece slot w.0.0).0 (bar_piece slot w.0.0).1 (stages_piece ss false w.1) (λ rest e. tt)

  links_tail : (ls : Many t.link) → AreWritable ls → Tail (links_text ls) (links_lexemes ls)
  links_tail none w = no_tail
  links_tail (more (t.Link logic body) ls) w = marked (sign_piece logic) (sign_ends logic) (tailed (cmd_piece body false w.0) (links_tail ls w.1))

  items_lines : (is : Many t.item) (begins others : Bool) → AreWritable is → Lines (p.item_lines is begins others) (x.item_lines is begins others)
  items_lines none begins others w = no_lines
  items_lines (more (t.Item body background) is) begins others w = line background (cmd_piece body begins w.0) (items_lines is others others w.1)

  branches_lines : (bs : Many t.branch) → AreWritable bs → Lines (p.branch_lines bs) (x.branch_lines bs)
  branches_lines none w = no_lines
  branches_lines (more (t.Branch patterns body) bs) w =
      line false (tailed case_word (args_tail patterns w.0.0))
      (lines_append (body_of body (body_items body w.0.1) (cmd_piece body true w.0.1)) (branches_lines bs w.1))

  body_items : (c : Node t.cmd) → IsWritable c → Lines (p.branch_items c) (x.branch_items c)
  body_items (t.Seq items) w = items_lines items true true w
  body_items _ w = no_lines
