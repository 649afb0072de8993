-- A form whose settled arguments and body fit is shaped.
use Rattle.std.proofs.Common.{◌≡◌, inl, inr, ℕ, ◌≤◌, Bool, true, false, List, [], ◌∷◌, length, Option, Some, None, refl, sym, subst, arith}
use Rattle.std.specs.Prelude.{nat_le, if◌then◌else◌}
use Rattle.std.proofs.lemmas.Bool.{leb-true}
use Rattle.acpi_values.specs.declared.width.Width.TheVariants.{W64}
use Rattle.acpi_values.specs.Widths.{ones_of}
use Rattle.asl_tree.specs.declared.term.Op.{Op}
use Rattle.asl_tree.specs.declared.term.Declaration.{Declaration}
use Rattle.asl_tree.specs.declared.term.Control.{Control}
use Rattle.asl_tree.specs.declared.term.Special.{Special}
use Rattle.asl_tree.specs.declared.term.Symbolic.{Symbolic}
use Rattle.asl_tree.specs.declared.term.Compound.{Compound}
use Rattle.acpi_state.specs.Outcomes.{choose}
use Rattle.asl_tree.specs.FieldItems.{FieldItem}
use Rattle.asl_tree.specs.Formats.{cut}
use Rattle.asl_tree.specs.Tree.{At, Tree, Integer, String, Omitted, Use, Package, VarPackage, CondRefOf, Field, IndexField, BankField, Misshapen, UnitName, Trees, no_trees, tree, count}
use Rattle.asl_tree.specs.View.{form, buffer, body_bytes, packaged, counted, items_in}
use Rattle.aml_sessions.specs.Ready.{IsText}
use Rattle.named_sessions.specs.Shaped.{EffectShaped, AreNamed, IsNumber, IsCaseMember, AreCaseMembers}
use Rattle.asl_words.specs.declared.operator.Parameter.{Parameter}
use Rattle.asl_words.specs.declared.operator.Slot.TheVariants as slot
use Rattle.asl_words.specs.Operators.{asked, optional, expression, place, target, used, declared, space, constant}
use Rattle.program_shapes.proofs.Plains.{spot_value}
use Rattle.program_shapes.proofs.Fits.{Fits, Takes, TreesFit, IsThere, Formed, FormedValues, FormedElements, FormedTerms, FormedCases, IsCase}

-- ---- arguments of a known number

pub data One (q : Parameter) : Trees → Type 0 where
  one : (t : Tree) (h : Takes q.omittable q.slot t) → One q (tree t no_trees)

pub one_of : (q : Parameter) (ts : Trees) → TreesFit (q ∷ []) ts → One q ts
one_of q no_trees h = absurd h
one_of q (tree t no_trees) h = one t h.0
one_of q (tree t (tree u us)) h = absurd h.1

pub data Two (q r : Parameter) : Trees → Type 0 where
  two : (t u : Tree) (h : Takes q.omittable q.slot t) (i : Takes r.omittable r.slot u) → Two q r (tree t (tree u no_trees))

pub two_of : (q r : Parameter) (ts : Trees) → TreesFit (q ∷ r ∷ []) ts → Two q r ts
two_of q r no_trees h = absurd h
two_of q r (tree t ts) h = behind (one_of r ts h.1)
  where
    behind : {ts : Trees} → One r ts → Two q r (tree t ts)
    behind (one u i) = two t u h.0 i

pub none_of : (ts : Trees) → TreesFit [] ts → ts ≡ no_trees
none_of no_trees h = refl
none_of (tree t ts) h = absurd h

pub data Three (q r s : Parameter) : Trees → Type 0 where
  three : (t u v : Tree) (h : Takes q.omittable q.slot t) (i : Takes r.omittable r.slot u) (j : Takes s.omittable s.slot v) → Three q r s (tree t (tree u (tree v no_trees)))

pub three_of : (q r s : Parameter) (ts : Trees) → TreesFit (q ∷ r ∷ s ∷ []) ts → Three q r s ts
three_of q r s no_trees h = absurd h
three_of q r s (tree t ts) h = behind (two_of r s ts h.1)
  where
    behind : {ts : Trees} → Two r s ts → Three q r s (tree t ts)
    behind (two u v i j) = three t u v h.0 i j

pub data Four (q r s z : Parameter) : Trees → Type 0 where
  four : (t u v w : Tree) (h : Takes q.omittable q.slot t) (i : Takes r.omittable r.slot u) (j : Takes s.omittable s.slot v) (k : Takes z.omittable z.slot w)
      → Four q r s z (tree t (tree u (tree v (tree w no_trees))))

pub four_of : (q r s z : Parameter) (ts : Trees) → TreesFit (q ∷ r ∷ s ∷ z ∷ []) ts → Four q r s z ts
four_of q r s z no_trees h = absurd h
four_of q r s z (tree t ts) h = behind (three_of r s z ts h.1)
  where
    behind : {ts : Trees} → Three r s z ts → Four q r s z (tree t ts)
    behind (three u v w i j k) = four t u v w h.0 i j k

-- ---- forms without a body

at_most : ℕ → ℕ → Parameter
at_most least most = asked (constant least most)

pub condition_made : (here : At) (ts : Trees) → Two place target ts → Formed (form here (Op.Special Special.CondRefOf) ts no_trees)
condition_made here _ (two t u h (inl i)) = (h.0, i.0)
condition_made here _ (two t u h (inr e)) = subst (λ u. Formed (CondRefOf t u)) (sym e) (h.0, tt)

pub return_made : (here : At) (ts : Trees) → One expression ts → Formed (form here (Op.Control Control.Return) ts no_trees)
return_made here _ (one t h) = h

pub assign_made : (here : At) (ts : Trees) → Two place expression ts → Formed (form here (Op.Symbolic Symbolic.Assign) ts no_trees)
assign_made here _ (two t u h i) = (tt, h.0, i.0, i.1)

pub assign_by_made : (here : At) (op : Compound) (ts : Trees) → Two place expression ts → Formed (form here (Op.Symbolic (Symbolic.AssignBy op)) ts no_trees)
assign_by_made here op _ (two t u h i) = let value = spot_value t h in (tt, h.0, value.0, value.1, i.0, i.1)

pub name_made : (here : At) (ts : Trees) → Two declared expression ts → Formed (form here (Op.Declaration Declaration.Name) ts no_trees)
name_made here _ (two (Use at name) value h i) = (h, i.0, i.1)
name_made here _ (two _ value h i) = absurd h

pub alias_made : (here : At) (ts : Trees) → Two used declared ts → Formed (form here (Op.Declaration Declaration.Alias) ts no_trees)
alias_made here _ (two (Use from source) (Use at name) h i) = (h, i)
alias_made here _ (two (Use from source) _ h i) = absurd i
alias_made here _ (two _ u h i) = absurd h

pub event_made : (here : At) (ts : Trees) → One declared ts → Formed (form here (Op.Declaration Declaration.Event) ts no_trees)
event_made here _ (one (Use at name) h) = h
event_made here _ (one _ h) = absurd h

pub mutex_made : (here : At) (ts : Trees) → Two declared (asked (constant 0 255)) ts → Formed (form here (Op.Declaration Declaration.Mutex) ts no_trees)
mutex_made here _ (two (Use at name) (Integer n) h i) = (h, omega (arith, i))
mutex_made here _ (two (Use at name) _ h i) = absurd i
mutex_made here _ (two _ u h i) = absurd h

pub bits_made : (here : At) (ts : Trees) → Four expression expression expression declared ts → Formed (form here (Op.Declaration Declaration.CreateField) ts no_trees)
bits_made here _ (four t u v (Use at name) h i j k) = ((h, (i, (j, tt))), k)
bits_made here _ (four t u v _ h i j k) = absurd k

pub bit_made : (here : At) (ts : Trees) → Three expression expression declared ts → Formed (form here (Op.Declaration Declaration.CreateBitField) ts no_trees)
bit_made here _ (three t u (Use at name) h i j) = ((h, (i, tt)), j)
bit_made here _ (three t u _ h i j) = absurd j

pub byte_made : (here : At) (ts : Trees) → Three expression expression declared ts → Formed (form here (Op.Declaration Declaration.CreateByteField) ts no_trees)
byte_made here _ (three t u (Use at name) h i j) = ((h, (i, tt)), j)
byte_made here _ (three t u _ h i j) = absurd j

pub word_made : (here : At) (ts : Trees) → Three expression expression declared ts → Formed (form here (Op.Declaration Declaration.CreateWordField) ts no_trees)
word_made here _ (three t u (Use at name) h i j) = ((h, (i, tt)), j)
word_made here _ (three t u _ h i j) = absurd j

pub dword_made : (here : At) (ts : Trees) → Three expression expression declared ts → Formed (form here (Op.Declaration Declaration.CreateDWordField) ts no_trees)
dword_made here _ (three t u (Use at name) h i j) = ((h, (i, tt)), j)
dword_made here _ (three t u _ h i j) = absurd j

pub qword_made : (here : At) (ts : Trees) → Three expression expression declared ts → Formed (form here (Op.Declaration Declaration.CreateQWordField) ts no_trees)
qword_made here _ (three t u (Use at name) h i j) = ((h, (i, tt)), j)
qword_made here _ (three t u _ h i j) = absurd j

pub region_made : (here : At) (ts : Trees) → Four declared space expression expression ts → Formed (form here (Op.Declaration Declaration.OperationRegion) ts no_trees)
region_made here _ (four (Use at name) (Integer n) v w h i j k) = (h, omega (arith, i), (j, (k, tt)))
region_made here _ (four (Use at name) _ v w h i j k) = absurd i
region_made here _ (four _ u v w h i j k) = absurd h

-- ---- forms with a body

pub if_made : (here : At) (ts body : Trees) → One expression ts → FormedTerms body → Formed (form here (Op.Control Control.If) ts body)
if_made here _ body (one t h) b = (h.0, h.1, b)

pub else_if_made : (here : At) (ts body : Trees) → One expression ts → FormedTerms body → Formed (form here (Op.Control Control.ElseIf) ts body)
else_if_made here _ body (one t h) b = (h.0, h.1, b)

pub while_made : (here : At) (ts body : Trees) → One expression ts → FormedTerms body → Formed (form here (Op.Control Control.While) ts body)
while_made here _ body (one t h) b = (h.0, h.1, b)

-- a start and a step may be left out
effect_of : (t : Tree) → Takes true slot.Effect t → EffectShaped t (Formed t)
effect_of Omitted h = tt
effect_of _ (inl h) = h
effect_of _ (inr e) = absurd cc

pub for_made : (here : At) (ts body : Trees) → Three (optional slot.Effect) expression (optional slot.Effect) ts → FormedTerms body → Formed (form here (Op.Control Control.For) ts body)
for_made here _ body (three t u v h i j) b = (tt, effect_of t h, i.0, i.1, effect_of v j, b)

-- a format and as many arguments as it asks for
abbrev pub PrintedFit : Trees → Type 0
PrintedFit (tree (String text) args) = IsText text × FormedValues args × (count args ≡ length (cut text).1)
PrintedFit _ = ⊥

-- behind a place
abbrev pub PrintedIntoFit : Trees → Type 0
PrintedIntoFit (tree t ts) = IsThere t × PrintedFit ts
PrintedIntoFit no_trees = ⊥

pub printf_made : (here : At) (ts : Trees) → PrintedFit ts → Formed (form here (Op.Control Control.Printf) ts no_trees)
printf_made here (tree (String text) args) h = (tt, tt, h.0, h.1, h.2)
printf_made here (tree _ args) h = absurd h
printf_made here no_trees h = absurd h

pub fprintf_made : (here : At) (ts : Trees) → PrintedIntoFit ts → Formed (form here (Op.Control Control.Fprintf) ts no_trees)
fprintf_made here (tree t (tree (String text) args)) h = (tt, h.0.0, h.1.0, h.1.1, h.1.2)
fprintf_made here (tree t (tree _ args)) h = absurd h.1
fprintf_made here (tree t no_trees) h = absurd h.1
fprintf_made here no_trees h = absurd h

pub switch_made : (here : At) (ts cases : Trees) → One expression ts → FormedCases cases → Formed (form here (Op.Control Control.Switch) ts cases)
switch_made here _ cases (one t h) b = (tt, h.0, h.1, b)

pub case_made : (here : At) (ts body : Trees) → One (asked slot.CaseValue) ts → FormedTerms body → IsCase (form here (Op.Control Control.Case) ts body)
case_made here _ body (one t h) b = (h, b)

pub device_made : (here : At) (ts body : Trees) → One declared ts → FormedTerms body → Formed (form here (Op.Declaration Declaration.Device) ts body)
device_made here _ body (one (Use at name) h) b = (h, tt, b)
device_made here _ body (one _ h) b = absurd h

pub zone_made : (here : At) (ts body : Trees) → One declared ts → FormedTerms body → Formed (form here (Op.Declaration Declaration.ThermalZone) ts body)
zone_made here _ body (one (Use at name) h) b = (h, tt, b)
zone_made here _ body (one _ h) b = absurd h

pub scope_made : (here : At) (ts body : Trees) → One used ts → FormedTerms body → Formed (form here (Op.Declaration Declaration.Scope) ts body)
scope_made here _ body (one (Use at name) h) b = (h, b)
scope_made here _ body (one _ h) b = absurd h

pub method_made : (here : At) (ts body : Trees) → Two declared (asked (constant 0 255)) ts → FormedTerms body → Formed (form here (Op.Declaration Declaration.Method) ts body)
method_made here _ body (two (Use at name) (Integer n) h i) b = (h, omega (arith, i), b)
method_made here _ body (two (Use at name) _ h i) b = absurd i
method_made here _ body (two _ u h i) b = absurd h

pub power_made : (here : At) (ts body : Trees) → Three declared (asked (constant 0 255)) (asked (constant 0 65535)) ts → FormedTerms body
    → Formed (form here (Op.Declaration Declaration.PowerResource) ts body)
power_made here _ body (three (Use at name) (Integer level) (Integer order) h i j) b = (h, (omega (arith, i), omega (arith, j)), b)
power_made here _ body (three (Use at name) (Integer level) _ h i j) b = absurd j
power_made here _ body (three (Use at name) _ v h i j) b = absurd i
power_made here _ body (three _ u v h i j) b = absurd h

pub processor_made : (here : At) (ts body : Trees) → Four declared (asked (constant 0 255)) (asked (constant 0 4294967295)) (asked (constant 0 255)) ts → FormedTerms body
    → Formed (form here (Op.Declaration Declaration.Processor) ts body)
processor_made here _ body (four (Use at name) (Integer number) (Integer address) (Integer size) h i j k) b = (h, (omega (arith, i), omega (arith, j), omega (arith, k)), b)
processor_made here _ body (four (Use at name) (Integer number) (Integer address) _ h i j k) b = absurd k
processor_made here _ body (four (Use at name) (Integer number) _ w h i j k) b = absurd j
processor_made here _ body (four (Use at name) _ v w h i j k) b = absurd i
processor_made here _ body (four _ u v w h i j k) b = absurd h

-- ---- data

pub buffer_made : (here : At) (ts body : Trees) → One (optional slot.Expression) ts → length (body_bytes body) ≤ ones_of W64
    → Formed (form here (Op.Special Special.Buffer) ts body)
buffer_made here _ body (one t (inr e)) b = subst (λ t. Formed (buffer t (body_bytes body))) (sym e) (refl, tt)
buffer_made here _ body (one t (inl h)) b = sized t h
  where
    sized : (t : Tree) → Fits slot.Expression t → Formed (buffer t (body_bytes body))
    sized Omitted h = absurd cc
    sized _ h = h

counted_made : (n : ℕ) (elements : Trees) → FormedElements elements → Formed (counted n elements)
counted_made n elements es = by (nat_le n 255) refl
  where
    by : (b : Bool) → nat_le n 255 ≡ b → Formed (if b then Package n elements else VarPackage (Integer n) elements)
    by true e = (omega (arith, leb-true n 255 e), es)
    by false e = (refl, tt, es)

pub package_made : (here : At) (ts body : Trees) → One (optional slot.Expression) ts → FormedElements body → count body ≤ ones_of W64
    → Formed (form here (Op.Special Special.Package) ts body)
package_made here _ body (one t (inr e)) es b = subst (λ t. Formed (packaged t body)) (sym e) (counted_made (count body) body es)
package_made here _ body (one t (inl h)) es b = sized t h
  where
    sized : (t : Tree) → Fits slot.Expression t → Formed (packaged t body)
    sized Omitted h = absurd cc
    sized (Integer n) h = counted_made n body es
    sized _ h = (h.0, h.1, es)

-- ---- what a Case compares with

pub case_buffer_made : (here : At) (ts body : Trees) → One (optional slot.Measure) ts → IsCaseMember (form here (Op.Special Special.Buffer) ts body)
case_buffer_made here _ body (one t (inr e)) = subst (λ t. IsCaseMember (buffer t (body_bytes body))) (sym e) tt
case_buffer_made here _ body (one t (inl h)) = sized t h
  where
    sized : (t : Tree) → Fits slot.Measure t → IsCaseMember (buffer t (body_bytes body))
    sized (Integer n) h = tt
    sized _ h = absurd h

-- a Package of so many members
abbrev pub IsPackageOf : ℕ → Tree → Type 0
IsPackageOf many (Package n members) = AreCaseMembers members × (count members ≡ many)
IsPackageOf many (VarPackage size members) = IsNumber size × AreCaseMembers members × (count members ≡ many)
IsPackageOf many _ = ⊥

counted_package : (n : ℕ) (members : Trees) → AreCaseMembers members → IsPackageOf (count members) (counted n members)
counted_package n members h = by (nat_le n 255)
  where
    by : (b : Bool) → IsPackageOf (count members) (if b then Package n members else VarPackage (Integer n) members)
    by true = (h, refl)
    by false = (tt, h, refl)

pub case_package_made : (here : At) (ts body : Trees) → One (optional slot.Measure) ts → AreCaseMembers body → IsPackageOf (count body) (form here (Op.Special Special.Package) ts body)
case_package_made here _ body (one t (inr e)) b = subst (λ t. IsPackageOf (count body) (packaged t body)) (sym e) (counted_package (count body) body b)
case_package_made here _ body (one t (inl h)) b = sized t h
  where
    sized : (t : Tree) → Fits slot.Measure t → IsPackageOf (count body) (packaged t body)
    sized (Integer n) h = counted_package n body b
    sized _ h = absurd h

-- ---- fields

-- items, if all of the trees are such
abbrev pub ListFit : Option (List (FieldItem UnitName)) → Type 0
ListFit None = ⊥
ListFit (Some items) = AreNamed items

listed_made : (o : Option (List (FieldItem UnitName))) (made : List (FieldItem UnitName) → Tree) → ListFit o → ((items : List (FieldItem UnitName)) → AreNamed items → Formed (made items))
    → Formed (choose o Misshapen made)
listed_made None made b go = absurd b
listed_made (Some items) made b go = go items b

pub field_made : (here : At) (ts body : Trees) → Two used (asked (constant 0 255)) ts → ListFit (items_in body) → Formed (form here (Op.Declaration Declaration.Field) ts body)
field_made here _ body (two (Use from region) (Integer n) h i) b = listed_made (items_in body) (λ items. Field here from region n items) b (λ items k. (h, omega (arith, i), k))
field_made here _ body (two (Use from region) _ h i) b = absurd i
field_made here _ body (two _ u h i) b = absurd h

pub index_made : (here : At) (ts body : Trees) → Three used used (asked (constant 0 255)) ts → ListFit (items_in body) → Formed (form here (Op.Declaration Declaration.IndexField) ts body)
index_made here _ body (three (Use from index) (Use to register) (Integer n) h i j) b = listed_made (items_in body) (λ items. IndexField here from index to register n items) b (λ items k. (h, i, omega (arith, j), k))
index_made here _ body (three (Use from index) (Use to register) _ h i j) b = absurd j
index_made here _ body (three (Use from index) _ v h i j) b = absurd i
index_made here _ body (three _ u v h i j) b = absurd h

pub bank_made : (here : At) (ts body : Trees) → Four used used expression (asked (constant 0 255)) ts → ListFit (items_in body) → Formed (form here (Op.Declaration Declaration.BankField) ts body)
bank_made here _ body (four (Use from region) (Use to bank) value (Integer n) h i j k) b =
    listed_made (items_in body) (λ items. BankField here from region to bank value n items) b (λ items l. (h, i, j.0, j.1, omega (arith, k), l))
bank_made here _ body (four (Use from region) (Use to bank) value _ h i j k) b = absurd k
bank_made here _ body (four (Use from region) _ v w h i j k) b = absurd i
bank_made here _ body (four _ u v w h i j k) b = absurd h
