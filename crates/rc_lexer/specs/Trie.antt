-- A trie of the operators of more than one byte.
use Rattle.std.specs.Prelude.{ℕ, if◌then◌else◌, ◌==◌, List, [], ◌∷◌, Option, Some, None}
use Rattle.rc_lexer.specs.declared.TokenKind.{TokenKind}
use Rattle.rc_lexer.specs.declared.TokenKind.TheVariants as tk
use Rattle.rc_model.specs.declared.call.Mode.TheVariants.{Read, Write, Append}
use Rattle.rc_lexer.specs.declared.operators.Op.{Op}
use Rattle.rc_lexer.specs.declared.operators.Op.TheVariants.{And1, And2, Bar0, BarBar, BarOpen, BarOne}
use Rattle.rc_lexer.specs.declared.operators.Op.TheVariants.{BarTwo, BarOneEnd, BarTwoEnd, Out0, OutOpen, OutOne}
use Rattle.rc_lexer.specs.declared.operators.Op.TheVariants.{OutTwo, OutOneEnd, OutTwoEnd, OutOneIs}
use Rattle.rc_lexer.specs.declared.operators.Op.TheVariants.{OutTwoIs, OutOneTwo, OutTwoOne, OutOneTwoEnd}
use Rattle.rc_lexer.specs.declared.operators.Op.TheVariants.{OutTwoOneEnd, App0, AppOpen, AppOne}
use Rattle.rc_lexer.specs.declared.operators.Op.TheVariants.{AppTwo, AppOneEnd, AppTwoEnd, In0, InOpen, InZero}
use Rattle.rc_lexer.specs.declared.operators.Op.TheVariants.{InZeroEnd, Here0, HereOpen, HereZero, HereZeroEnd, Dollar0}
use Rattle.rc_lexer.specs.declared.operators.Op.TheVariants.{DollarHash, DollarQuote}

-- the text of an operator so far
abbrev pub spelled : Op → List ℕ
spelled And1 = 38 ∷ []
spelled And2 = 38 ∷ 38 ∷ []
spelled Bar0 = 124 ∷ []
spelled BarBar = 124 ∷ 124 ∷ []
spelled BarOpen = 124 ∷ 91 ∷ []
spelled BarOne = 124 ∷ 91 ∷ 49 ∷ []
spelled BarTwo = 124 ∷ 91 ∷ 50 ∷ []
spelled BarOneEnd = 124 ∷ 91 ∷ 49 ∷ 93 ∷ []
spelled BarTwoEnd = 124 ∷ 91 ∷ 50 ∷ 93 ∷ []
spelled Out0 = 62 ∷ []
spelled OutOpen = 62 ∷ 91 ∷ []
spelled OutOne = 62 ∷ 91 ∷ 49 ∷ []
spelled OutTwo = 62 ∷ 91 ∷ 50 ∷ []
spelled OutOneEnd = 62 ∷ 91 ∷ 49 ∷ 93 ∷ []
spelled OutTwoEnd = 62 ∷ 91 ∷ 50 ∷ 93 ∷ []
spelled OutOneIs = 62 ∷ 91 ∷ 49 ∷ 61 ∷ []
spelled OutTwoIs = 62 ∷ 91 ∷ 50 ∷ 61 ∷ []
spelled OutOneTwo = 62 ∷ 91 ∷ 49 ∷ 61 ∷ 50 ∷ []
spelled OutTwoOne = 62 ∷ 91 ∷ 50 ∷ 61 ∷ 49 ∷ []
spelled OutOneTwoEnd = 62 ∷ 91 ∷ 49 ∷ 61 ∷ 50 ∷ 93 ∷ []
spelled OutTwoOneEnd = 62 ∷ 91 ∷ 50 ∷ 61 ∷ 49 ∷ 93 ∷ []
spelled App0 = 62 ∷ 62 ∷ []
spelled AppOpen = 62 ∷ 62 ∷ 91 ∷ []
spelled AppOne = 62 ∷ 62 ∷ 91 ∷ 49 ∷ []
spelled AppTwo = 62 ∷ 62 ∷ 91 ∷ 50 ∷ []
spelled AppOneEnd = 62 ∷ 62 ∷ 91 ∷ 49 ∷ 93 ∷ []
spelled AppTwoEnd = 62 ∷ 62 ∷ 91 ∷ 50 ∷ 93 ∷ []
spelled In0 = 60 ∷ []
spelled InOpen = 60 ∷ 91 ∷ []
spelled InZero = 60 ∷ 91 ∷ 48 ∷ []
spelled InZeroEnd = 60 ∷ 91 ∷ 48 ∷ 93 ∷ []
spelled Here0 = 60 ∷ 60 ∷ []
spelled HereOpen = 60 ∷ 60 ∷ 91 ∷ []
spelled HereZero = 60 ∷ 60 ∷ 91 ∷ 48 ∷ []
spelled HereZeroEnd = 60 ∷ 60 ∷ 91 ∷ 48 ∷ 93 ∷ []
spelled Dollar0 = 36 ∷ []
spelled DollarHash = 36 ∷ 35 ∷ []
spelled DollarQuote = 36 ∷ 34 ∷ []

-- the operator that begins with this byte
abbrev pub first_op : ℕ → Op
first_op b =
    if b == 38 then And1 else (if b == 124 then Bar0 else (if b == 62 then Out0 else (if b == 60 then In0
    else Dollar0)))

-- the operator with one more byte, if some operator begins this way
abbrev pub next_op : Op → ℕ → Option Op
next_op And1 b = if b == 38 then Some And2 else None
next_op Bar0 b = if b == 124 then Some BarBar else (if b == 91 then Some BarOpen else None)
next_op BarOpen b = if b == 49 then Some BarOne else (if b == 50 then Some BarTwo else None)
next_op BarOne b = if b == 93 then Some BarOneEnd else None
next_op BarTwo b = if b == 93 then Some BarTwoEnd else None
next_op Out0 b = if b == 91 then Some OutOpen else (if b == 62 then Some App0 else None)
next_op OutOpen b = if b == 49 then Some OutOne else (if b == 50 then Some OutTwo else None)
next_op OutOne b = if b == 93 then Some OutOneEnd else (if b == 61 then Some OutOneIs else None)
next_op OutTwo b = if b == 93 then Some OutTwoEnd else (if b == 61 then Some OutTwoIs else None)
next_op OutOneIs b = if b == 50 then Some OutOneTwo else None
next_op OutTwoIs b = if b == 49 then Some OutTwoOne else None
next_op OutOneTwo b = if b == 93 then Some OutOneTwoEnd else None
next_op OutTwoOne b = if b == 93 then Some OutTwoOneEnd else None
next_op App0 b = if b == 91 then Some AppOpen else None
next_op AppOpen b = if b == 49 then Some AppOne else (if b == 50 then Some AppTwo else None)
next_op AppOne b = if b == 93 then Some AppOneEnd else None
next_op AppTwo b = if b == 93 then Some AppTwoEnd else None
next_op In0 b = if b == 91 then Some InOpen else (if b == 60 then Some Here0 else None)
next_op InOpen b = if b == 48 then Some InZero else None
next_op InZero b = if b == 93 then Some InZeroEnd else None
next_op Here0 b = if b == 91 then Some HereOpen else None
next_op HereOpen b = if b == 48 then Some HereZero else None
next_op HereZero b = if b == 93 then Some HereZeroEnd else None
next_op Dollar0 b = if b == 35 then Some DollarHash else (if b == 34 then Some DollarQuote else None)
next_op _ b = None

-- the token with this spelling, if there is one
abbrev pub op_kind : Op → Option TokenKind
op_kind And1 = Some tk.Ampersand
op_kind And2 = Some tk.AndAnd
op_kind Bar0 = Some (tk.Bar 1)
op_kind BarBar = Some tk.OrOr
op_kind BarOneEnd = Some (tk.Bar 1)
op_kind BarTwoEnd = Some (tk.Bar 2)
op_kind Out0 = Some (tk.Redirection Write 1)
op_kind OutOneEnd = Some (tk.Redirection Write 1)
op_kind OutTwoEnd = Some (tk.Redirection Write 2)
op_kind OutOneTwoEnd = Some (tk.CopyTo 1 2)
op_kind OutTwoOneEnd = Some (tk.CopyTo 2 1)
op_kind App0 = Some (tk.Redirection Append 1)
op_kind AppOneEnd = Some (tk.Redirection Append 1)
op_kind AppTwoEnd = Some (tk.Redirection Append 2)
op_kind In0 = Some (tk.Redirection Read 0)
op_kind InZeroEnd = Some (tk.Redirection Read 0)
op_kind Here0 = Some tk.BareHere
op_kind HereZeroEnd = Some tk.BareHere
op_kind Dollar0 = Some tk.Dollar
op_kind DollarHash = Some tk.DollarCount
op_kind DollarQuote = Some tk.DollarFlat
op_kind _ = None
