-- What is handed over in a launch, and where it is too large.
use Rattle.std.proofs.Common.{◌≡◌, refl, ap, sym, ◌∙◌, ℕ, Bool, true, false, if◌then◌else◌, ◌&&◌, List, Option, Some, None, map}
use Rattle.std.specs.Prelude.{unwrap_or}
use Rattle.std.specs.List.{list_all}
use Rattle.std.proofs.lemmas.List.Folds.{list_all-map}
use Rattle.rc_model.specs.Syntax.Tree.{Node, cmd}
use Rattle.rc_model.specs.Run.State.{State}
use Rattle.rc_model.specs.Handed.Arguments.{handed}
use Rattle.rc_model.specs.Handed.Image.{entries, image_words, is_short, node_image}
use Rattle.rc_model.specs.Handed.Pieces.{one_word}
use Rattle.rc_text.specs.Texts.{text_bytes}
use Rattle.rc_text.specs.declared.texts.Text.{Text}
use Rattle.rc_image.specs.Launches.{args_with, short_entries}

abbrev Pair : Type 0
Pair = List (List ℕ) × List (List ℕ)

-- what is handed over, by these words of the image
by_words : (words : Option (List (List ℕ))) (c : Node cmd) (s : State) → image_words c ≡ words →
    handed c s ≡ (if list_all is_short (args_with (unwrap_or words (one_word (node_image c))) s) && list_all is_short (entries s)
    then Some (args_with (unwrap_or words (one_word (node_image c))) s, entries s) else None)
by_words words c s e =
    ap (λ w. if list_all is_short (args_with (unwrap_or w (one_word (node_image c))) s) && list_all is_short (entries s)
    then Some (args_with (unwrap_or w (one_word (node_image c))) s, entries s) else None) e

by_tests : (args es : List (List ℕ)) (a b : Bool) → list_all is_short args ≡ a → list_all is_short es ≡ b →
    ◌≡◌ {A = Option Pair} (if list_all is_short args && list_all is_short es then Some (args, es) else None) (if a && b then Some (args, es) else None)
by_tests args es a b h k =
    ap (λ t. if t && list_all is_short es then Some (args, es) else None) h ∙ ap (λ t. if a && t then Some (args, es) else None) k

-- what is short enough, and what is not
all_short : (texts : List Text) (bytes : List (List ℕ)) (t : Bool) → map text_bytes texts ≡ bytes → list_all (λ text. is_short (text_bytes text)) texts ≡ t → list_all is_short bytes ≡ t
all_short texts bytes t m h = sym (ap (list_all is_short) m) ∙ list_all-map is_short text_bytes texts ∙ h

module _ (words : List (List ℕ)) (args es : List Text) (c : Node cmd) (s : State) (w : image_words c ≡ Some words)
    (a : map text_bytes args ≡ args_with words s) (e : map text_bytes es ≡ entries s) where
  pub is_handed : list_all (λ text. is_short (text_bytes text)) args ≡ true → list_all (λ text. is_short (text_bytes text)) es ≡ true →
      handed c s ≡ Some (map text_bytes args, map text_bytes es)
  is_handed h k =
      by_words (Some words) c s w
      ∙ by_tests (args_with words s) (entries s) true true (all_short args (args_with words s) true a h) (all_short es (entries s) true e k)
      ∙ ap (λ x. Some (x, entries s)) (sym a) ∙ ap (λ x. Some (map text_bytes args, x)) (sym e)

  -- an argument is too long
  pub long_argument : list_all (λ text. is_short (text_bytes text)) args ≡ false → handed c s ≡ None
  long_argument h =
      by_words (Some words) c s w ∙ by_tests (args_with words s) (entries s) false (list_all is_short (entries s)) (all_short args (args_with words s) false a h) refl

  -- an entry is too long
  pub long_entry : list_all (λ text. is_short (text_bytes text)) args ≡ true → list_all (λ text. is_short (text_bytes text)) es ≡ false → handed c s ≡ None
  long_entry h k =
      by_words (Some words) c s w
      ∙ by_tests (args_with words s) (entries s) true false (all_short args (args_with words s) true a h) (all_short es (entries s) false e k)

-- whether entries that were written are short enough
abbrev AreShort : List Text → Bool → Type 0
AreShort es t = list_all (λ text. is_short (text_bytes text)) es ≡ t

pub short_all : (es : List Text) (s : State) → map text_bytes es ≡ entries s → AreShort es true →
    short_entries s ≡ Some (map text_bytes es)
unfolding short_entries
short_all es s e h =
    ap (λ t. if t then Some (entries s) else None) (all_short es (entries s) true e h) ∙ ap (λ x. Some x) (sym e)

pub not_short : (es : List Text) (s : State) → map text_bytes es ≡ entries s → AreShort es false →
    short_entries s ≡ None
unfolding short_entries
not_short es s e h = ap (λ t. if t then Some (entries s) else None) (all_short es (entries s) false e h)
