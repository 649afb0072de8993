-- What is told of mentions one by one, behind what is declared before each; of those of expressions the same is told wherever they stand.
use Rattle.std.proofs.Common.{◌≡◌, Bool, true, false, List, [], ◌∷◌, ◌++◌, refl, ap, ◌∙◌}
use Rattle.std.specs.Prelude.{◌&&◌, ◌||◌, not}
use Rattle.acpi_values.specs.Paths.{AbsolutePath}
use Rattle.acpi_values.specs.Operators.{Letter, Used, row_of}
use Rattle.asl_tree.specs.Tree.{Tree, Use, Call, Apply, Buffer, Package, VarPackage, CondRefOf, Operated, Assigned, AssignedBy, Trees, no_trees, tree}
use Rattle.asl_meaning.specs.Declarations.{Declarations, nothing_declared}
use Rattle.acpi_names.specs.Errors.{Asked}
use Rattle.acpi_names.specs.Mentions.{Mention, Used', Sought, Called, Declares, Outside, Opens, is_spot, is_use, asks, asked_use, letter_mention, cond_place, mentions, mentions_all, operand_mentions, target_mentions, element_mentions, after, after_all}

-- the mentions of expressions
abbrev pub IsLight : Mention → Type 0
IsLight (Used' asked at name scope) = Unit {0}
IsLight (Sought at name scope) = Unit {0}
IsLight (Called asked at name args scope) = Unit {0}
IsLight _ = ⊥

abbrev pub AreLight : List Mention → Type 0
AreLight [] = Unit {0}
AreLight (m ∷ ms) = IsLight m × AreLight ms

light_both : (a b : List Mention) → AreLight a → AreLight b → AreLight (a ++ b)
light_both [] b h k = k
light_both (m ∷ a) b h k = (h.0, light_both a b h.1 k)

cond_light : (t : Tree) (ms : List Mention) (scope : AbsolutePath) → AreLight ms → AreLight (cond_place t ms scope)
cond_light (Use at name) ms scope h = (tt, tt)
cond_light t ms scope h = h

letter_light : (letter : Letter) (uses : Asked) (t : Tree) (ms : List Mention) (scope : AbsolutePath) → AreLight ms → AreLight (letter_mention letter uses t ms scope)
letter_light Used uses (Use at name) ms scope h = (tt, tt)
letter_light letter uses t ms scope h = h

mutual
  pub light : (asked : Bool) (t : Tree) (scope : AbsolutePath) → AreLight (mentions asked t scope)
  light asked (Use at name) scope = (tt, tt)
  light asked (Call at name args) scope = (tt, light_all asked args scope)
  light asked (Apply op args targets) scope =
      light_both (operand_mentions asked (asked_use asked op) (row_of op).operands args scope) (target_mentions asked targets scope) (light_operands asked (asked_use asked op) (row_of op).operands args scope) (light_targets asked targets scope)
  light asked (Operated op args) scope = light_operands asked (asked_use asked op) (row_of op).operands args scope
  light asked (Assigned target value) scope = light_both (mentions asked value scope) (mentions (asked && is_spot target) target scope) (light asked value scope) (light (asked && is_spot target) target scope)
  light asked (AssignedBy op target value) scope = light_both (mentions asked target scope) (mentions asked value scope) (light asked target scope) (light asked value scope)
  light asked (Buffer size bytes) scope = light asked size scope
  light asked (Package n elements) scope = light_elements asked elements scope
  light asked (VarPackage size elements) scope = light_both (mentions asked size scope) (element_mentions asked elements scope) (light asked size scope) (light_elements asked elements scope)
  light asked (CondRefOf place target) scope =
      light_both (cond_place place (mentions (asked && is_spot place) place scope) scope) (mentions (asked && is_spot target) target scope) (cond_light place (mentions (asked && is_spot place) place scope) scope (light (asked && is_spot place) place scope))
      (light (asked && is_spot target) target scope)
  light asked _ scope = tt

  pub light_all : (asked : Bool) (ts : Trees) (scope : AbsolutePath) → AreLight (mentions_all asked ts scope)
  light_all asked no_trees scope = tt
  light_all asked (tree t ts) scope = light_both (mentions asked t scope) (mentions_all asked ts scope) (light asked t scope) (light_all asked ts scope)

  pub light_operands : (asked : Bool) (uses : Asked) (letters : List Letter) (ts : Trees) (scope : AbsolutePath) → AreLight (operand_mentions asked uses letters ts scope)
  light_operands asked uses letters no_trees scope = tt
  light_operands asked uses [] (tree t ts) scope = light_both (mentions false t scope) (operand_mentions asked uses [] ts scope) (light false t scope) (light_operands asked uses [] ts scope)
  light_operands asked uses (letter ∷ letters) (tree t ts) scope =
      let ms = mentions (asked && asks letter t) t scope in
      light_both (letter_mention letter uses t ms scope) (operand_mentions asked uses letters ts scope) (letter_light letter uses t ms scope (light (asked && asks letter t) t scope)) (light_operands asked uses letters ts scope)

  light_targets : (asked : Bool) (ts : Trees) (scope : AbsolutePath) → AreLight (target_mentions asked ts scope)
  light_targets asked no_trees scope = tt
  light_targets asked (tree t ts) scope = light_both (mentions (asked && is_spot t) t scope) (target_mentions asked ts scope) (light (asked && is_spot t) t scope) (light_targets asked ts scope)

  light_elements : (asked : Bool) (ts : Trees) (scope : AbsolutePath) → AreLight (element_mentions asked ts scope)
  light_elements asked no_trees scope = tt
  light_elements asked (tree t ts) scope = light_both (mentions (asked && not (is_use t)) t scope) (element_mentions asked ts scope) (light (asked && not (is_use t)) t scope) (light_elements asked ts scope)

-- they declare nothing
after_light : (ms : List Mention) → AreLight ms → (d : Declarations) → after_all ms d ≡ d
after_light [] h d = refl
after_light (Used' asked at name scope ∷ ms) h d = after_light ms h.1 d
after_light (Sought at name scope ∷ ms) h d = after_light ms h.1 d
after_light (Called asked at name args scope ∷ ms) h d = after_light ms h.1 d
after_light (Declares at name as' scope ∷ ms) h d = absurd h.0
after_light (Outside here at name type scope ∷ ms) h d = absurd h.0
after_light (Opens here at name scope inner ∷ ms) h d = absurd h.0

-- something that is told of a mention or not; of that of an expression whatever is declared before it
pub record Telling : Type 0 where
  pub of : Mention → Declarations → Bool
  pub steady : (m : Mention) → IsLight m → (c d : Declarations) → of m c ≡ of m d

pub either_third : (a b c : Bool) → (a || (b || c)) ≡ ((a || b) || c)
either_third true b c = refl
either_third false b c = refl

pub either : (a a' b b' : Bool) → a ≡ a' → b ≡ b' → (a || b) ≡ (a' || b')
either a a' b b' e f = ap (λ c. c || b) e ∙ ap (λ c. a' || c) f

module _ (telling : Telling) where
  -- it is told of one of them
  abbrev pub told : List Mention → Declarations → Bool
  told [] d = false
  told (m ∷ ms) d = telling.of m d || told ms (after m d)

  pub told_append : (a b : List Mention) (d : Declarations) → told (a ++ b) d ≡ (told a d || told b (after_all a d))
  told_append [] b d = refl
  told_append (m ∷ a) b d = ap (λ c. telling.of m d || c) (told_append a b (after m d)) ∙ either_third (telling.of m d) (told a (after m d)) (told b (after_all a (after m d)))

  told_anywhere : (ms : List Mention) → AreLight ms → (c d : Declarations) → told ms c ≡ told ms d
  told_anywhere [] h c d = refl
  told_anywhere (Used' asked at name scope ∷ ms) h c d =
      let m = Used' asked at name scope in either (telling.of m c) (telling.of m d) (told ms c) (told ms d) (telling.steady m tt c d) (told_anywhere ms h.1 c d)
  told_anywhere (Sought at name scope ∷ ms) h c d =
      let m = Sought at name scope in either (telling.of m c) (telling.of m d) (told ms c) (told ms d) (telling.steady m tt c d) (told_anywhere ms h.1 c d)
  told_anywhere (Called asked at name args scope ∷ ms) h c d =
      let m = Called asked at name args scope in either (telling.of m c) (telling.of m d) (told ms c) (told ms d) (telling.steady m tt c d) (told_anywhere ms h.1 c d)
  told_anywhere (Declares at name as' scope ∷ ms) h c d = absurd h.0
  told_anywhere (Outside here at name type scope ∷ ms) h c d = absurd h.0
  told_anywhere (Opens here at name scope inner ∷ ms) h c d = absurd h.0

  -- behind the mentions of an expression
  pub told_both : (a b : List Mention) → AreLight a → (d : Declarations) → told (a ++ b) d ≡ (told a nothing_declared || told b d)
  told_both a b h d = told_append a b d ∙ either (told a d) (told a nothing_declared) (told b (after_all a d)) (told b d) (told_anywhere a h d nothing_declared) (ap (told b) (after_light a h d))

  -- what is told of an expression
  abbrev pub heard : Bool → Tree → AbsolutePath → Bool
  heard asked t scope = told (mentions asked t scope) nothing_declared

  abbrev pub heard_all : Bool → Trees → AbsolutePath → Bool
  heard_all asked ts scope = told (mentions_all asked ts scope) nothing_declared

  pub told_value : (asked : Bool) (t : Tree) (scope : AbsolutePath) (d : Declarations) → told (mentions asked t scope) d ≡ heard asked t scope
  told_value asked t scope d = told_anywhere (mentions asked t scope) (light asked t scope) d nothing_declared

  pub told_values : (asked : Bool) (ts : Trees) (scope : AbsolutePath) (d : Declarations) → told (mentions_all asked ts scope) d ≡ heard_all asked ts scope
  told_values asked ts scope d = told_anywhere (mentions_all asked ts scope) (light_all asked ts scope) d nothing_declared
