-- What the shape promises of an argument, as a tree, and what follows of a plain operator.
use Rattle.std.proofs.Common.{◌≡◌, ◌⊎◌, inl, inr, ℕ, zero, suc, ◌-◌, ◌<◌, ◌≤◌, ◌^◌, Bool, true, false, List, [], ◌∷◌, ◌++◌, map, refl, sym, ap, subst, arith, append-nil}
use Rattle.std.specs.Prelude.{replicate}
use Rattle.std.proofs.Math.Nat.{one-le-pow}
use Rattle.acpi_values.specs.Operators.{Letter, Valued, Kept, Placed, Used, Row}
use Rattle.acpi_values.specs.Operators as L
use Rattle.asl_tree.specs.FieldItems.{AccessItem}
use Rattle.asl_tree.specs.Tree.{Tree, Integer, String, Omitted, Use, Fill, Item, Case, Default, Trees, no_trees, tree, count}
use Rattle.asl_tree.specs.View.{fits, operands_as, targets_of}
use Rattle.aml_code.specs.Fronts.{IsName, IsUsedName}
use Rattle.aml_sessions.specs.Ready.{is_expression, IsText, IsItem}
use Rattle.named_sessions.specs.Shaped.{UsedShaped, ElementShaped, IsFormed, IsFormedSpot, AreFormedOperands, AreFormedSpots, AreFormedValues, AreFormedElements, AreFormed, AreNamed, IsFormedAlone, AreFormedCases, IsNumber, IsCaseMember, IsCaseValue}
use Rattle.asl_words.specs.declared.operator.Parameter.{Parameter}
use Rattle.asl_words.specs.declared.operator.Slot.{Slot}
use Rattle.asl_words.specs.declared.operator.Slot.TheVariants as slot
use Rattle.asl_words.specs.Operators.{target, by_letter}

-- what is formed in a source, where Fors and what prints, symbols, ElseIfs and Switches may stand
abbrev pub Formed : Tree → Type 0
Formed = IsFormed (Unit {0}) AreNamed (Unit {0}) (Unit {0})

abbrev pub FormedSpot : Tree → Type 0
FormedSpot = IsFormedSpot (Unit {0}) AreNamed (Unit {0}) (Unit {0})

abbrev pub FormedAlone : Trees → Trees → Type 0
FormedAlone = IsFormedAlone (Unit {0}) AreNamed (Unit {0}) (Unit {0})

abbrev pub FormedOperands : List Letter → Trees → Type 0
FormedOperands = AreFormedOperands (Unit {0}) AreNamed (Unit {0}) (Unit {0})

abbrev pub FormedSpots : Trees → Type 0
FormedSpots = AreFormedSpots (Unit {0}) AreNamed (Unit {0}) (Unit {0})

abbrev pub FormedValues : Trees → Type 0
FormedValues = AreFormedValues (Unit {0}) AreNamed (Unit {0}) (Unit {0})

abbrev pub FormedElements : Trees → Type 0
FormedElements = AreFormedElements (Unit {0}) AreNamed (Unit {0}) (Unit {0})

abbrev pub FormedTerms : Trees → Type 0
FormedTerms = AreFormed (Unit {0}) AreNamed (Unit {0}) (Unit {0})

abbrev pub FormedCases : Trees → Type 0
FormedCases = AreFormedCases (Unit {0}) AreNamed (Unit {0}) (Unit {0})

-- a Case of a Switch
abbrev pub IsCase : Tree → Type 0
IsCase (Case value body) = IsCaseValue value × FormedTerms body
IsCase _ = ⊥

abbrev pub IsDefault : Tree → Type 0
IsDefault (Default body) = FormedTerms body
IsDefault _ = ⊥

-- a member of a Switch
abbrev pub IsBranch : Tree → Type 0
IsBranch (Case value body) = IsCaseValue value × FormedTerms body
IsBranch (Default body) = FormedTerms body
IsBranch _ = ⊥

-- whether an argument is left out
abbrev pub is_left_out : Tree → Bool
is_left_out Omitted = true
is_left_out _ = false

-- a term that stands for a place, and is not left out
abbrev pub IsThere : Tree → Type 0
IsThere t = FormedSpot t × (is_left_out t ≡ false)

-- a name that is declared
abbrev pub IsDeclared : Tree → Type 0
IsDeclared (Use at name) = IsName name
IsDeclared _ = ⊥

-- a number of at most so much
abbrev pub IsAtMost : ℕ → Tree → Type 0
IsAtMost most (Integer n) = n ≤ most
IsAtMost most _ = ⊥

abbrev pub IsString : Tree → Type 0
IsString (String text) = IsText text
IsString _ = ⊥

-- an element of a field's list, or the name that one begins with
abbrev pub IsElement : Tree → Type 0
IsElement (Use at name) = IsUsedName name
IsElement (Fill bytes) = Unit {0}
IsElement (Item item) = AreNamed (item ∷ [])
IsElement _ = ⊥

-- an attribute that has a length has bytes; any other is a number
abbrev pub IsAttribute : Tree → Type 0
IsAttribute (Item (AccessItem access attribute count)) = IsItem 0 (AccessItem access attribute count)
IsAttribute _ = Unit {0}

-- what units are connected to: a name, or the bytes of a descriptor
abbrev pub IsConnected : Tree → Type 0
IsConnected (Use at name) = IsUsedName name
IsConnected (Fill bytes) = Unit {0}
IsConnected _ = ⊥

-- the bytes of a descriptor
abbrev pub IsFill : Tree → Type 0
IsFill (Fill bytes) = Unit {0}
IsFill _ = ⊥

-- what stands in a slot
abbrev pub Fits : Slot → Tree → Type 0
Fits slot.Expression t = (is_expression t ≡ true) × Formed t
Fits slot.Effect t = (is_expression t ≡ true) × Formed t
Fits slot.Place t = IsThere t
Fits slot.Named t = IsThere t
Fits slot.Declared t = IsDeclared t
Fits slot.External t = IsDeclared t
Fits slot.Used t = UsedShaped t
Fits (slot.Constant least most) t = IsAtMost most t
Fits slot.Measure t = IsAtMost 18446744073709551615 t
Fits (slot.Word kind) t = IsAtMost 255 t
Fits (slot.WordBelow kind limit) t = IsAtMost 255 t
Fits (slot.WordOrByte kind) t = IsAtMost 255 t
Fits slot.Space t = IsAtMost 255 t
Fits (slot.Types most) t = IsNumber t
Fits (slot.String form) t = IsString t
Fits (slot.MacroText m) t = (is_expression t ≡ true) × Formed t
Fits slot.Element t = ElementShaped t (Formed t)
Fits slot.RegisterSpace t = IsAtMost 255 t
Fits slot.DescriptorName t = IsElement t
Fits slot.Vacant t = ⊥
Fits (slot.Descriptor chosen) t = IsFill t
Fits slot.FieldElement t = IsElement t
Fits slot.WholeElement t = IsElement t
Fits slot.AccessType t = Unit {0}
Fits slot.Attribute t = IsAttribute t
Fits slot.Connected t = IsConnected t
Fits (slot.Term run) t = Formed t
Fits (slot.Branch defaulted) t = IsBranch t
Fits slot.CaseValue t = IsCaseValue t
Fits slot.CaseMember t = IsCaseMember t

-- what an operator takes as an argument, which may be left out
abbrev pub Takes : Bool → Slot → Tree → Type 0
Takes true s t = Fits s t ⊎ (t ≡ Omitted)
Takes false s t = Fits s t

abbrev pub TreesFit : List Parameter → Trees → Type 0
TreesFit [] no_trees = Unit {0}
TreesFit (q ∷ qs) (tree t ts) = Takes q.omittable q.slot t × TreesFit qs ts
TreesFit _ _ = ⊥

-- an expression is not left out, so it stays as it is
pub valued_same : (letters : List Letter) (t : Tree) (ts : Trees) → is_expression t ≡ true → operands_as (Valued ∷ letters) (tree t ts) ≡ tree t (operands_as letters ts)
valued_same letters Omitted ts h = absurd cc
valued_same letters _ ts h = refl

raw_ready : (size : ℕ) (letters : List Letter) (t : Tree) (ts : Trees) → IsAtMost (256 ^ size - 1) t → FormedOperands letters (operands_as letters ts) → FormedOperands (L.Raw size ∷ letters) (operands_as (L.Raw size ∷ letters) (tree t ts))
raw_ready size letters (Integer n) ts h k = ((refl, below size n h), k)
  where
    below : (size n : ℕ) → n ≤ 256 ^ size - 1 → n < 256 ^ size
    below size n h = let least : 1 ≤ 256 ^ size = one-le-pow size 256 (omega arith) in omega (arith, h, least)
raw_ready size letters _ ts h k = absurd h

-- the targets, each of which may be left out
spots_of : (n : ℕ) (ts : Trees) → TreesFit (replicate n target) ts → (count ts ≡ n) × FormedSpots ts
spots_of zero no_trees h = (refl, tt)
spots_of zero (tree t ts) h = absurd h
spots_of (suc n) no_trees h = absurd h
spots_of (suc n) (tree t ts) h = let more = spots_of n ts h.1 in (ap suc more.0, (spot t h.0, more.1))
  where
    spot : (t : Tree) → IsThere t ⊎ (t ≡ Omitted) → FormedSpot t
    spot t (inl s) = s.0
    spot t (inr e) = subst FormedSpot (sym e) tt

-- what a plain operator asks of its operands and targets
pub record ArePlain (letters : List Letter) (targets : ℕ) (ts : Trees) : Type 0 where
  pub operands : FormedOperands letters (operands_as letters ts)
  pub number : count (targets_of letters ts) ≡ targets
  pub spots : FormedSpots (targets_of letters ts)

pub plain_fits : (letters : List Letter) (targets : ℕ) (ts : Trees) → TreesFit (map by_letter letters ++ replicate targets target) ts → ArePlain letters targets ts
plain_fits [] targets ts h = let spots = spots_of targets ts h in record { operands = tt; number = spots.0; spots = spots.1 }
plain_fits (letter ∷ letters) targets no_trees h = absurd h
plain_fits (Valued ∷ letters) targets (tree t ts) h =
    let more = plain_fits letters targets ts h.1 in
    record { operands = subst (FormedOperands (Valued ∷ letters)) (sym (valued_same letters t ts h.0.0)) (h.0, more.operands); number = more.number; spots = more.spots }
plain_fits (Kept ∷ letters) targets (tree t ts) h = let more = plain_fits letters targets ts h.1 in record { operands = (h.0, more.operands); number = more.number; spots = more.spots }
plain_fits (Placed ∷ letters) targets (tree t ts) h = let more = plain_fits letters targets ts h.1 in record { operands = (h.0.0, more.operands); number = more.number; spots = more.spots }
plain_fits (Used ∷ letters) targets (tree t ts) h = let more = plain_fits letters targets ts h.1 in record { operands = (h.0, more.operands); number = more.number; spots = more.spots }
plain_fits (L.Raw size ∷ letters) targets (tree t ts) h = let more = plain_fits letters targets ts h.1 in record { operands = raw_ready size letters t ts h.0 more.operands; number = more.number; spots = more.spots }

-- as many arguments as operands
pub all_fit : (letters : List Letter) (ts : Trees) → TreesFit (map by_letter letters) ts → fits letters ts ≡ true
all_fit [] no_trees h = refl
all_fit [] (tree t ts) h = absurd h
all_fit (letter ∷ letters) no_trees h = absurd h
all_fit (letter ∷ letters) (tree t ts) h = all_fit letters ts h.1

-- what is written with a symbol has no targets
pub operands_fit : (letters : List Letter) (ts : Trees) → TreesFit (map by_letter letters) ts → FormedOperands letters (operands_as letters ts)
operands_fit letters ts h = (plain_fits letters 0 ts (subst (λ qs. TreesFit qs ts) (sym (append-nil (map by_letter letters))) h)).operands
