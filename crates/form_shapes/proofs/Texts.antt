-- The texts of a format are texts, and a format with as many arguments as it asks for can be filled.
use Rattle.std.proofs.Common.{◌≡◌, ℕ, Bool, true, false, List, [], ◌∷◌, length, refl, ap, ◌∙◌, arith}
use Rattle.std.specs.Prelude.{if◌then◌else◌, ◌&&◌, nat_eq}
use Rattle.asl_tree.specs.FieldItems.{FieldItem}
use Rattle.asl_tree.specs.Formats.{Cut, with_byte, with_hole, is_hole, is_percent, cut}
use Rattle.asl_tree.specs.Tree.{Tree, Omitted, Trees, no_trees, tree, count, UnitName}
use Rattle.aml_sessions.specs.Ready.{IsText, is_expression}
use Rattle.named_sessions.specs.Shaped.{AreFormedValues}
use Rattle.asl_prints.specs.Forms.{are_filled, is_given, are_given, is_filled}

abbrev pub AreTexts : List (List ℕ) → Type 0
AreTexts [] = Unit {0}
AreTexts (text ∷ texts) = IsText text × AreTexts texts

abbrev AreCut : Cut → Type 0
AreCut r = IsText r.0 × AreTexts r.1

hole_cut : (r : Cut) → AreCut r → AreCut (with_hole r)
hole_cut r h = (tt, (h.0, h.1))

byte_cut : (c : ℕ) (r : Cut) → nat_eq c 0 ≡ false → AreCut r → AreCut (with_byte c r)
byte_cut c r e h = ((e, h.0), h.1)

pub texts_cut : (format : List ℕ) → IsText format → IsText (cut format).0 × AreTexts (cut format).1
texts_cut [] h = (tt, tt)
texts_cut (c ∷ []) h = (h, tt)
texts_cut (c ∷ d ∷ format) h = by (is_hole c d) (is_percent c d) (texts_cut format h.1.1) (texts_cut (d ∷ format) h.1)
  where
    by : (a b : Bool) → AreCut (cut format) → AreCut (cut (d ∷ format)) → AreCut (if a then with_hole (cut format) else if b then with_byte 0x25 (cut format) else with_byte c (cut (d ∷ format)))
    by true b k l = hole_cut (cut format) k
    by false true k l = byte_cut 0x25 (cut format) refl k
    by false false k l = byte_cut c (cut (d ∷ format)) h.0 l

count_filled : (texts : List (List ℕ)) (args : Trees) → count args ≡ length texts → are_filled texts args ≡ true
count_filled [] no_trees e = refl
count_filled [] (tree arg args) e = absurd (omega (arith, e))
count_filled (text ∷ texts) no_trees e = absurd (omega (arith, e))
count_filled (text ∷ texts) (tree arg args) e = count_filled texts args (omega (arith, e))

value_given : (t : Tree) → is_expression t ≡ true → is_given t ≡ true
value_given Omitted e = absurd cc
value_given t e = refl

module _ (Forms : Type 0) (Listed : List (FieldItem UnitName) → Type 0) (Symbols Switches : Type 0) where
  values_given : (args : Trees) → AreFormedValues Forms Listed Symbols Switches args → are_given args ≡ true
  values_given no_trees h = refl
  values_given (tree arg args) h = ap (λ b. b && are_given args) (value_given arg h.0) ∙ values_given args h.2

  pub values_filled : (format : List ℕ) (args : Trees) → AreFormedValues Forms Listed Symbols Switches args → count args ≡ length (cut format).1 → is_filled format args ≡ true
  values_filled format args h e = ap (λ b. b && are_filled (cut format).1 args) (values_given args h) ∙ count_filled (cut format).1 args e
