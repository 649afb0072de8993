-- Trees of which the second serves wherever the first one does: those in which a use that is an expression has become a number. A form of such
-- trees serves as the form does, and stands where its node and its trees stand.
use Rattle.std.proofs.Common.{◌≡◌, ℕ, suc, Bool, true, false, List, [], ◌∷◌, refl, ap, ◌∙◌, Option, Some, None, arith}
use Rattle.std.specs.Prelude.{Option, nat_le, if◌then◌else◌}
use Rattle.std.proofs.lemmas.Bool.{false≢true, true≢false, leb-true}
use Rattle.acpi_values.specs.declared.operator.DataOp.TheVariants as DataOp
use Rattle.acpi_values.specs.declared.operator.IntOp.{IntOp}
use Rattle.acpi_values.specs.declared.operator.Plain.{Plain}
use Rattle.acpi_values.specs.Operators.{Letter, row_of, Valued, Used}
use Rattle.acpi_values.specs.Operators as L
use Rattle.acpi_state.specs.Outcomes.{choose}
use Rattle.asl_tree.specs.declared.term.Op.{Op}
use Rattle.asl_tree.specs.declared.term.Declaration.TheVariants as Declaration
use Rattle.asl_tree.specs.declared.term.Control.TheVariants as Control
use Rattle.asl_tree.specs.declared.term.Special.TheVariants as Special
use Rattle.asl_tree.specs.declared.term.Symbolic.TheVariants as Symbolic
use Rattle.asl_tree.specs.declared.path.Path.{Path}
use Rattle.asl_tree.specs.FieldItems.{FieldItem}
use Rattle.asl_tree.specs.Tree.{At, Tree, Integer, String, Omitted, Use, Call, Apply, Operated, Buffer, Package, VarPackage, Else, Case, Default, Field, IndexField, BankField, Item, Fill, Misshapen, Trees, no_trees, tree, count, UnitName}
use Rattle.asl_tree.specs.View.{operands_as, targets_of, plain_of, not_of, apply_of, fits, operated, symbol_of, buffer, body_bytes, counted, packaged, items_in, form}
use Rattle.acpi_names.proofs.Plain.{is_plain}
use Rattle.aml_sessions.specs.Ready.{is_expression, is_constant}
use Rattle.named_sessions.specs.Shaped.{ElementShaped, EffectShaped, IsFormed, IsFormedSpot, IsFormedAlone, AreFormedOperands, AreFormedSpots, AreFormedValues, AreFormedElements, AreFormed, AreFormedCases, IsNumber, IsCaseMember, AreCaseMembers, HaveCaseMembers, IsCaseValue, StartsNoElse, IsFollowed, AreNamed}
use Rattle.named_sessions.specs.Places.{IsIn, IsItemWithin, AreItemsWithin, IsWithin, AreWithin}
use Rattle.descriptor_fields.specs.Declaring.{has_terms}
use Rattle.descriptor_fields.specs.Values.{is_operand, is_value, has_values}
use Rattle.stripped_names.specs.Whole.{IsShaped}

abbrev One : Type 0
One = Unit {0}

abbrev pub IsProgram : Trees → Type 0
IsProgram = AreFormed One AreNamed One One

abbrev Formed : Tree → Type 0
Formed = IsFormed One AreNamed One One

abbrev Spot : Tree → Type 0
Spot = IsFormedSpot One AreNamed One One

abbrev Operands : List Letter → Trees → Type 0
Operands = AreFormedOperands One AreNamed One One

abbrev Cases : Trees → Type 0
Cases = AreFormedCases One AreNamed One One

-- a term of a program, or a part of a Switch
abbrev pub IsTerm : Tree → Type 0
IsTerm (Case value body) = IsProgram body
IsTerm (Default body) = IsProgram body
IsTerm t = Formed t

-- ---- what a tree serves as

-- a tree into which forms look, which stays as it is; a use may be a number where it is an expression
abbrev IsLeaf : Bool → Tree → Type 0
IsLeaf p (Integer number) = One
IsLeaf p (String text) = One
IsLeaf p Omitted = One
IsLeaf p (Item item) = One
IsLeaf p (Fill bytes) = One
IsLeaf p (Use at name) = p ≡ false
IsLeaf p _ = ⊥

-- what the forms alone say: whether it is an Else, is a Switch, behind which none may stand, is a Case, and is a form, a value and a place
pub record Heads (p : Bool) (t u : Tree) : Type 0 where
  no_else : (ts us : Trees) → Formed t → StartsNoElse (tree t ts) → StartsNoElse (tree u us)
  followed : (ts us : Trees) → Formed t → (StartsNoElse ts → StartsNoElse us) → IsFollowed t ts → IsFollowed u us
  cases : (ts us : Trees) → count us ≡ count ts → (Cases ts → Cases us) → Cases (tree t ts) → Cases (tree u us)
  pub shaped : IsTerm t → IsShaped u
  value : is_expression t ≡ true → is_expression u ≡ true
  spot : p ≡ false → Spot t → Spot u

pub record Serves (p : Bool) (t u : Tree) : Type 0 where
  pub heads : Heads p t u
  pub open heads use *
  pub term : Formed t → Formed u
  leaf : IsLeaf p t → u ≡ t
  element : ElementShaped t (Formed t) → ElementShaped u (Formed u)
  member : IsCaseMember t → IsCaseMember u
  compared : IsCaseValue t → IsCaseValue u

-- a Default is the last of the cases
last_case : (body more : Trees) → (IsProgram body → IsProgram more) → (ts us : Trees) → count us ≡ count ts → Cases (tree (Default body) ts) → Cases (tree (Default more) us)
last_case body more go no_trees no_trees e h = go h
last_case body more go no_trees (tree u us) e h = absurd cc
last_case body more go (tree t ts) us e h = absurd h

same_heads : {p : Bool} (t : Tree) → Heads p t t
same_heads (Case value body) = record { no_else = search; followed = search; cases = λ ts us e go h. (h.0, h.1, go h.2); shaped = search; value = search; spot = search }
same_heads (Default body) = record { no_else = search; followed = search; cases = λ ts us e go h. last_case body body (λ h. h) ts us e h; shaped = search; value = search; spot = search }
same_heads _ = search

pub same : {p : Bool} (t : Tree) → Serves p t t
same t = record { heads = same_heads t; term = λ h. h; leaf = λ h. refl; element = λ h. h; member = λ h. h; compared = λ h. h }

pub counted_use : (at : At) (name : Path) (n : ℕ) → Serves true (Use at name) (Integer n)
counted_use at name n = record { heads = search true≢false; term = λ h. tt; leaf = λ e. absurd cc; element = λ h. (refl, tt); member = λ h. tt; compared = λ h. tt }

-- a term that stands in no Package and that no Case compares with
abbrev is_made : Tree → Bool
is_made Omitted = false
is_made t = if is_constant t then false else is_plain t

made : {p : Bool} (t : Tree) {u : Tree} → is_made t ≡ true → Heads p t u → (Formed t → Formed u) → Serves p t u
made Omitted e heads go = absurd cc
made _ e heads go = record { heads = heads; term = go; leaf = λ h. search false≢true; element = λ h. search false≢true; member = λ h. search false≢true; compared = λ h. search false≢true }

nothing : {p : Bool} (u : Tree) → Serves p Misshapen u
nothing u = made _ refl (record { no_else = λ ts us h. absurd h; followed = λ ts us h. absurd h; cases = λ ts us e go h. absurd h; shaped = λ h. absurd h; value = λ e. absurd cc; spot = λ e h. absurd h }) (λ h. absurd h)

effect_of : (u : Tree) → is_expression u ≡ true → Formed u → EffectShaped u (Formed u)
effect_of Omitted e h = absurd cc
effect_of _ e h = (e, h)

effect : {p : Bool} (t : Tree) {u : Tree} → Serves p t u → EffectShaped t (Formed t) → EffectShaped u (Formed u)
effect Omitted s h = rw (s.leaf tt) tt
effect t {u} s h = effect_of u (s.value h.0) (s.term h.1)

-- ---- lists

-- trees of which those with some numbers are expressions, from one on
pub data LikeFrom (values : ℕ → Bool) : ℕ → Trees → Trees → Type 0 where
  NoneFrom : {n : ℕ} → LikeFrom values n no_trees no_trees
  MoreFrom : {n : ℕ} (t : Tree) {u : Tree} {ts us : Trees} → Serves (values n) t u → LikeFrom values (suc n) ts us → LikeFrom values n (tree t ts) (tree u us)

pub record Lists (values : ℕ → Bool) (ts us : Trees) : Type 0 where
  many : count us ≡ count ts
  arguments : AreFormedValues One AreNamed One One ts → AreFormedValues One AreNamed One One us
  elements : AreFormedElements One AreNamed One One ts → AreFormedElements One AreNamed One One us
  spots : ((k : ℕ) → values k ≡ false) → AreFormedSpots One AreNamed One One ts → AreFormedSpots One AreNamed One One us
  members : AreCaseMembers ts → AreCaseMembers us
  some_members : HaveCaseMembers ts → HaveCaseMembers us
  no_else : IsProgram ts → StartsNoElse ts → StartsNoElse us
  pub program : IsProgram ts → IsProgram us
  cases : Cases ts → Cases us

pub lists : {values : ℕ → Bool} {n : ℕ} {ts us : Trees} → LikeFrom values n ts us → Lists values ts us
lists NoneFrom = search
lists {n = n} (MoreFrom t {u} {ts} {us} s rest) =
    let k = lists rest in
    record {
      many = ap suc k.many;
      arguments = λ h. (s.value h.0, s.term h.1, k.arguments h.2);
      elements = λ h. (s.element h.0, k.elements h.1);
      spots = λ e h. (s.spot (e n) h.0, k.spots e h.1);
      members = λ h. (s.member h.0, k.members h.1);
      some_members = λ h. (s.member h.0, k.members h.1);
      no_else = λ h. s.no_else ts us h.0;
      program = λ h. (s.term h.0, s.followed ts us h.0 (k.no_else h.2) h.1, k.program h.2);
      cases = s.cases ts us k.many k.cases;
    }

next_from : {values : ℕ → Bool} {n : ℕ} {ts us : Trees} → LikeFrom values (suc n) ts us → LikeFrom (λ k. values (suc k)) n ts us
next_from NoneFrom = NoneFrom
next_from (MoreFrom t s rest) = MoreFrom t s (next_from rest)

pub all_same : {values : ℕ → Bool} {n : ℕ} (ts : Trees) → LikeFrom values n ts ts
all_same no_trees = NoneFrom
all_same (tree t ts) = MoreFrom t (same t) (all_same ts)

pub called : {p : Bool} {ts us : Trees} (at : At) (name : Path) → LikeFrom (λ k. true) 0 ts us → Serves p (Call at name ts) (Call at name us)
called at name like = made _ refl (search) (λ h. (h.0, (lists like).arguments h.1))

-- ---- operands

value_first : (letters : List Letter) (u : Tree) (us : Trees) → is_expression u ≡ true → Formed u → Operands letters (operands_as letters us) → Operands (Valued ∷ letters) (operands_as (Valued ∷ letters) (tree u us))
value_first letters Omitted us e h k = absurd cc
value_first letters _ us e h k = ((e, h), k)

-- operands by their letters, the targets behind them, and that they stand where all do
operands : (letters : List Letter) {ts us : Trees} → LikeFrom (is_operand letters) 0 ts us → (Operands letters (operands_as letters ts) → Operands letters (operands_as letters us))
    × LikeFrom (λ k. false) 0 (targets_of letters ts) (targets_of letters us) × ((files : ℕ) → AreWithin files ts → AreWithin files (operands_as letters ts) × AreWithin files (targets_of letters ts))
operands [] like = (λ h. h, like, λ files h. (tt, h))
operands (letter ∷ letters) NoneFrom = (λ h. h, NoneFrom, λ files h. (tt, tt))
operands (Valued ∷ letters) (MoreFrom Omitted s rest) = let k = operands letters (next_from rest) in rw (s.leaf tt) (λ h. (h.0, k.0 h.1), k.1, λ files h. ((tt, (k.2 files h.1).0), (k.2 files h.1).1))
operands (Valued ∷ letters) (MoreFrom t {u} {us} s rest) = let k = operands letters (next_from rest) in (λ h. value_first letters u us (s.value h.0.0) (s.term h.0.1) (k.0 h.1), k.1, λ files h. ((h.0, (k.2 files h.1).0), (k.2 files h.1).1))
operands (L.Raw size ∷ letters) (MoreFrom (Integer n) s rest) = let k = operands letters (next_from rest) in rw (s.leaf tt) (λ h. (h.0, k.0 h.1), k.1, λ files h. ((tt, (k.2 files h.1).0), (k.2 files h.1).1))
operands (Used ∷ letters) (MoreFrom (Use at name) s rest) = let k = operands letters (next_from rest) in rw (s.leaf refl) (λ h. (h.0, k.0 h.1), k.1, λ files h. ((h.0, (k.2 files h.1).0), (k.2 files h.1).1))
operands (L.Raw size ∷ letters) (MoreFrom t s rest) = let k = operands letters (next_from rest) in (λ h. absurd h.0, k.1, λ files h. ((tt, (k.2 files h.1).0), (k.2 files h.1).1))
operands (letter ∷ letters) (MoreFrom t s rest) = let k = operands letters (next_from rest) in (λ h. (search (s.spot, s.value, s.term), k.0 h.1), k.1, λ files h. ((h.0, (k.2 files h.1).0), (k.2 files h.1).1))

-- ---- operators

-- two trees of which the second serves as the first, which stands in files in which some parts stand
abbrev Alike : Bool → (ℕ → Type 0) → Tree → Tree → Type 0
Alike p Parts t u = Serves p t u × ((files : ℕ) → Parts files → IsWithin files t)

abbrev AlikeApplied : Bool → Trees → Tree → Tree → Type 0
AlikeApplied p ts = Alike p (λ files. AreWithin files ts)

alone_is : (xs ys : Trees) → (IsFormedAlone One AreNamed One One xs ys → Operands (Valued ∷ []) xs × (count ys ≡ 0)) × (Operands (Valued ∷ []) xs → count ys ≡ 0 → IsFormedAlone One AreNamed One One xs ys)
alone_is (tree t no_trees) no_trees = (λ h. ((h, tt), refl), λ h e. h.0)
alone_is (tree t no_trees) (tree u us) = (λ h. absurd h, λ h e. absurd cc)
alone_is _ _ = (λ h. absurd h, λ h e. absurd search)

-- a place is that of the result, or of what the operand refers to
placed : (op : Plain) (ts us targets spots : Trees) → (Operands (row_of op).operands ts → Operands (row_of op).operands us) → LikeFrom (λ k. false) 0 targets spots → Spot (Apply op ts targets) → Spot (Apply op us spots)
placed (Plain.Data DataOp.Index) ts us targets spots go like h = (h.0, (go h.1.0, (lists like).many ∙ h.1.1, (lists like).spots (λ k. refl) h.1.2))
placed (Plain.Data DataOp.DerefOf) ts us targets spots go like h = let k = (alone_is ts targets).0 h.1 in (h.0, (alone_is us spots).1 (go k.0) ((lists like).many ∙ k.1))
placed _ ts us targets spots go like h = absurd h.1

plain_like : {p : Bool} (op : Plain) {ts us : Trees} → LikeFrom (is_operand (row_of op).operands) 0 ts us → AlikeApplied p ts (plain_of op ts) (plain_of op us)
plain_like op like =
    let k = operands (row_of op).operands like in
    (made _ refl (search (placed op _ _ _ _ k.0 k.1)) (λ h. (h.0, k.0 h.1, (lists k.1).many ∙ h.2, (lists k.1).spots (λ k. refl) h.3)), λ files h. k.2 files h)

not_like : {p : Bool} (op : IntOp) {ts us : Trees} → LikeFrom (is_operand (row_of (Plain.Number op)).operands) 0 ts us → AlikeApplied p ts (not_of op ts) (not_of op us)
not_like {p} op {ts} {us} like =
    let inner : AlikeApplied true ts (plain_of (Plain.Number op) ts) (plain_of (Plain.Number op) us) = plain_like (Plain.Number op) like in
    let outer = plain_like {p = p} (Plain.Number IntOp.LNot) (MoreFrom _ inner.0 NoneFrom) in
    (outer.0, λ files h. outer.1 files (inner.1 files h, tt))

apply_like : {p : Bool} (op : Plain) {ts us : Trees} → LikeFrom (is_operand (row_of op).operands) 0 ts us → AlikeApplied p ts (apply_of op ts) (apply_of op us)
apply_like (Plain.Number IntOp.LNotEqual) like = not_like IntOp.LEqual like
apply_like (Plain.Number IntOp.LLessEqual) like = not_like IntOp.LGreater like
apply_like (Plain.Number IntOp.LGreaterEqual) like = not_like IntOp.LLess like
apply_like op like = plain_like op like

placed_symbol : (op : Plain) (ts us : Trees) → (Operands (row_of op).operands ts → Operands (row_of op).operands us) → Spot (Operated op ts) → Spot (Operated op us)
placed_symbol (Plain.Data DataOp.Index) ts us go h = (h.0, h.1, go h.2)
placed_symbol _ ts us go h = absurd h.2

operated_serves : {p : Bool} (op : Plain) (ts us : Trees) → (Operands (row_of op).operands ts → Operands (row_of op).operands us) → Serves p (Operated op ts) (Operated op us)
operated_serves op ts us go = made _ refl (search (placed_symbol op ts us go)) (λ h. (h.0, h.1, go h.2))

not_operated : {p : Bool} (op : Plain) (ts us : Trees) → (Operands (row_of op).operands ts → Operands (row_of op).operands us) → AlikeApplied p ts (Operated (Plain.Number IntOp.LNot) (tree (Operated op ts) no_trees)) (Operated (Plain.Number IntOp.LNot) (tree (Operated op us) no_trees))
not_operated op ts us go = (operated_serves (Plain.Number IntOp.LNot) _ _ (λ h. ((refl, (operated_serves {p = true} op ts us go).term h.0.1), tt)), λ files h. (h, tt))

operated_like : {p : Bool} (op : Plain) (ts us : Trees) → (Operands (row_of op).operands ts → Operands (row_of op).operands us) → AlikeApplied p ts (operated op ts) (operated op us)
operated_like (Plain.Number IntOp.LNotEqual) ts us go = not_operated (Plain.Number IntOp.LEqual) ts us go
operated_like (Plain.Number IntOp.LLessEqual) ts us go = not_operated (Plain.Number IntOp.LGreater) ts us go
operated_like (Plain.Number IntOp.LGreaterEqual) ts us go = not_operated (Plain.Number IntOp.LLess) ts us go
operated_like op ts us go = (operated_serves op ts us go, λ files h. h)

fits_same : (letters : List Letter) {values : ℕ → Bool} {n : ℕ} {ts us : Trees} → LikeFrom values n ts us → fits letters ts ≡ fits letters us
fits_same (letter ∷ letters) (MoreFrom t s rest) = fits_same letters rest
fits_same [] NoneFrom = refl
fits_same _ _ = refl

fitting : {p : Bool} (ts : Trees) {t u : Tree} (b : Bool) → AlikeApplied p ts t u → AlikeApplied p ts (if b then t else Misshapen) (if b then u else Misshapen)
fitting ts true alike = alike
fitting ts false alike = (nothing Misshapen, λ files h. tt)

symbol_like : {p : Bool} (op : Plain) {ts us : Trees} → LikeFrom (is_operand (row_of op).operands) 0 ts us → AlikeApplied p ts (symbol_of op ts) (symbol_of op us)
symbol_like {p} op {ts} {us} like =
    let k = operands (row_of op).operands like in
    let alike = operated_like {p = p} op (operands_as (row_of op).operands ts) (operands_as (row_of op).operands us) k.0 in
    rw (fits_same (row_of op).operands like) (fitting ts (fits (row_of op).operands us) (alike.0, λ files h. alike.1 files (k.2 files h).0))

-- ---- sizes

number : {p : Bool} (t : Tree) {u : Tree} → Serves p t u → IsNumber t → IsNumber u
number (Integer n) s h = rw (s.leaf tt) tt
number _ s h = absurd h

buffered : {p : Bool} (t u : Tree) (bytes more : List ℕ) → (Formed (Buffer t bytes) → Formed (Buffer u more)) → (IsNumber t → IsNumber u) → Serves p (Buffer t bytes) (Buffer u more)
buffered t u bytes more go is = record { heads = search; leaf = λ h. absurd h; term = go; element = λ h. (refl, go h.1); member = is; compared = is }

sized : {p : Bool} (t u : Tree) → Serves true t u → (bytes more : List ℕ) → Serves p (Buffer t bytes) (buffer u more)
sized t Omitted s bytes more = buffered t _ bytes more (λ h. (refl, tt)) (λ h. tt)
sized t u s bytes more = buffered t _ bytes more (λ h. (s.value h.0, s.term h.1)) (number t s)

buffer_like : {p : Bool} (t : Tree) {u : Tree} → Serves true t u → (bytes more : List ℕ) → Alike p (λ files. IsWithin files t) (buffer t bytes) (buffer u more)
buffer_like Omitted s bytes more = rw (s.leaf tt) (buffered _ _ bytes more (λ h. (refl, tt)) (λ h. tt), λ files h. tt)
buffer_like t {u} s bytes more = (sized t u s bytes more, λ files h. h)

-- a Package of these elements, whatever its size is
data Packs (es : Trees) : Tree → Type 0 where
  AsByte : (n : ℕ) → Packs es (Package n es)
  AsSize : (size : Tree) → Packs es (VarPackage size es)

packs_serve : {p : Bool} {es fs : Trees} {x y : Tree} → Packs es x → Packs fs y → (Formed x → Formed y) → (IsCaseValue x → IsCaseValue y) → Serves p x y
packs_serve (AsByte n) (AsByte m) go is = record { heads = search; leaf = λ h. absurd h; term = go; element = λ h. (refl, go h.1); member = λ h. h; compared = is }
packs_serve (AsSize size) (AsByte m) go is = record { heads = search; leaf = λ h. absurd h; term = go; element = λ h. (refl, go h.1); member = λ h. h; compared = is }
packs_serve _ _ go is = record { heads = search; leaf = λ h. absurd h; term = go; element = λ h. (refl, go h.1); member = λ h. h; compared = is }

packs_hold : {es : Trees} {x : Tree} → Packs es x → (Formed x → AreFormedElements One AreNamed One One es) × (IsCaseValue x → HaveCaseMembers es)
packs_hold (AsByte n) = (λ h. h.1, λ h. h)
packs_hold (AsSize size) = (λ h. h.2, λ h. h.1)

counted_packs : (b : Bool) (n : ℕ) (es : Trees) → nat_le n 255 ≡ b → let x = if b then Package n es else VarPackage (Integer n) es in Packs es x × (AreFormedElements One AreNamed One One es → Formed x) × (HaveCaseMembers es → IsCaseValue x) × ((files : ℕ) → AreWithin files es → IsWithin files x)
counted_packs true n es e = (AsByte n, λ h. (omega (arith, leb-true n 255 e), h), λ h. h, λ files h. h)
counted_packs false n es e = (AsSize (Integer n), λ h. (refl, tt, h), λ h. (tt, h), λ files h. (tt, h))

counted_like : {p : Bool} {es fs : Trees} {x : Tree} → Packs es x → (m : ℕ) → Lists (λ k. true) es fs → Serves p x (counted m fs)
counted_like {fs = fs} packs m k = let h = packs_hold packs in let c = counted_packs (nat_le m 255) m fs refl in packs_serve packs c.0 (λ f. c.1 (k.elements (h.0 f))) (λ f. c.2 (k.some_members (h.1 f)))

packed : {p : Bool} (t u : Tree) {es fs : Trees} → Serves true t u → Lists (λ k. true) es fs → Serves p (VarPackage t es) (packaged u fs)
packed t Omitted s k = counted_like (AsSize t) _ k
packed t (Integer n) s k = counted_like (AsSize t) n k
packed t u s k = packs_serve (AsSize t) (AsSize u) (λ h. (s.value h.0, s.term h.1, k.elements h.2)) (λ h. (number t s h.0, k.some_members h.1))

packaged_like : {p : Bool} (t : Tree) {u : Tree} {es fs : Trees} → Serves true t u → Lists (λ k. true) es fs → Alike p (λ files. IsWithin files t × AreWithin files es) (packaged t es) (packaged u fs)
packaged_like Omitted {es = es} s k = let c = counted_packs (nat_le (count es) 255) (count es) es refl in rw (s.leaf tt) (counted_like c.0 _ k, λ files h. c.3 files h.1)
packaged_like (Integer n) {es = es} s k = let c = counted_packs (nat_le n 255) n es refl in rw (s.leaf tt) (counted_like c.0 n k, λ files h. c.3 files h.1)
packaged_like t {u} s k = (packed t u s k, λ files h. h)

-- the items of a field's list stay, and stand where its trees do
data Items (ts : Trees) : Option (List (FieldItem UnitName)) → Option (List (FieldItem UnitName)) → Type 0 where
  NoItems : {o : Option (List (FieldItem UnitName))} → Items ts None o
  TheItems : (items : List (FieldItem UnitName)) → ((files : ℕ) → AreWithin files ts → AreItemsWithin files items) → Items ts (Some items) (Some items)

next_item : {t : Tree} {ts : Trees} {o q : Option (List (FieldItem UnitName))} (item : FieldItem UnitName) → ((files : ℕ) → IsWithin files t → IsItemWithin files item) → Items ts o q → Items (tree t ts) (choose o None (λ items. Some (item ∷ items))) (choose q None (λ items. Some (item ∷ items)))
next_item item within NoItems = NoItems
next_item item within (TheItems items all) = TheItems (item ∷ items) (λ files h. (within files h.0, all files h.1))

items_like : {n : ℕ} {ts us : Trees} → LikeFrom (λ n. false) n ts us → Items ts (items_in ts) (items_in us)
items_like NoneFrom = TheItems [] (λ files h. tt)
items_like (MoreFrom (Item item) s rest) = rw (s.leaf tt) (next_item item (λ files h. h) (items_like rest))
items_like (MoreFrom (Use at name) s rest) = rw (s.leaf refl) (next_item _ (λ files h. h) (items_like rest))
items_like (MoreFrom (Fill bytes) s rest) = rw (s.leaf tt) (next_item _ (λ files h. tt) (items_like rest))
items_like (MoreFrom _ s rest) = NoItems

-- ---- forms

pub data AreTerms : Trees → Type 0 where
  Terms : {ts : Trees} → IsProgram ts → AreTerms ts
  InSwitch : {ts : Trees} → Cases ts → AreTerms ts

pub first_term : (t : Tree) (ts : Trees) → AreTerms (tree t ts) → IsTerm t × AreTerms ts
first_term (Case value body) ts (Terms h) = absurd h.0
first_term (Default body) ts (Terms h) = absurd h.0
first_term _ _ (Terms h) = (h.0, Terms h.2)
first_term (Case value body) ts (InSwitch h) = (h.1, InSwitch h.2)
first_term (Default body) no_trees (InSwitch h) = (h, InSwitch tt)
first_term _ _ (InSwitch h) = absurd h

-- two forms, where the first stands, and what stands in the body of one with terms, which stays a form with more of them
abbrev pub AlikeForms : Bool → At → Op → (ts bs us : Trees) → Tree → Tree → Type 0
AlikeForms p here op ts bs us t u = Serves p t u × ((files : ℕ) → IsIn files here × AreWithin files ts × AreWithin files bs → IsWithin files t) × ((more : Trees) → has_terms op ≡ true → (bs ≡ no_trees → more ≡ no_trees) → IsTerm t → AreTerms bs × IsShaped (form here op us more))

listed : {p : Bool} (here : At) (ts : Trees) {bs : Trees} {o q : Option (List (FieldItem UnitName))} (make remake : List (FieldItem UnitName) → Tree)
    → ((items : List (FieldItem UnitName)) → ((files : ℕ) → AreWithin files bs → AreItemsWithin files items) → Alike p (λ files. IsIn files here × AreWithin files ts × AreWithin files bs) (make items) (remake items))
    → Items bs o q → Alike p (λ files. IsIn files here × AreWithin files ts × AreWithin files bs) (choose o Misshapen make) (choose q Misshapen remake)
listed here ts make remake like NoItems = (nothing _, λ files h. tt)
listed here ts make remake like (TheItems items within) = like items within

pub form_like : {p : Bool} (here : At) (op : Op) {ts us bs cs : Trees} → LikeFrom (is_value op) 0 ts us → LikeFrom (λ k. has_values op) 0 bs cs → AlikeForms p here op ts bs us (form here op ts bs) (form here op us cs)
form_like here (Op.Declaration Declaration.Name) (MoreFrom (Use at name) s (MoreFrom value t NoneFrom)) NoneFrom = rw (s.leaf refl) (made _ refl (search) (λ h. (h.0, t.value h.1, t.term h.2)), λ files h. (h.1.0, h.1.1.0), λ more e. absurd cc)
form_like here (Op.Declaration Declaration.Alias) (MoreFrom (Use from source) s (MoreFrom (Use at name) t NoneFrom)) NoneFrom = rw (s.leaf refl, t.leaf refl) (same _, λ files h. (h.1.0, h.1.1.0), λ more e. absurd cc)
form_like here (Op.Declaration Declaration.External) (MoreFrom (Use at name) s (MoreFrom (Integer type) t NoneFrom)) NoneFrom = rw (s.leaf refl, t.leaf tt) (same _, λ files h. (h.0, h.1.0), λ more e. absurd cc)
form_like here (Op.Declaration Declaration.External) (MoreFrom (Use at name) s (MoreFrom (Integer type) t (MoreFrom (Integer n) u NoneFrom))) NoneFrom = rw (s.leaf refl, t.leaf tt, u.leaf tt) (same _, λ files h. (h.0, h.1.0), λ more e. absurd cc)
form_like here (Op.Declaration Declaration.Method) (MoreFrom (Use at name) s (MoreFrom (Integer flags) t NoneFrom)) body = rw (s.leaf refl, t.leaf tt) (made _ refl (search) (λ h. (h.0, h.1, (lists body).program h.2)), λ files h. (h.1.0, h.2), λ more e none h. (Terms h.2, tt))
form_like here (Op.Declaration Declaration.Mutex) (MoreFrom (Use at name) s (MoreFrom (Integer level) t NoneFrom)) NoneFrom = rw (s.leaf refl, t.leaf tt) (same _, λ files h. h.1.0, λ more e. absurd cc)
form_like here (Op.Declaration Declaration.Event) (MoreFrom (Use at name) s NoneFrom) NoneFrom = rw (s.leaf refl) (same _, λ files h. h.1.0, λ more e. absurd cc)
form_like here (Op.Declaration Declaration.Device) (MoreFrom (Use at name) s NoneFrom) body = rw (s.leaf refl) (made _ refl (search) (λ h. (h.0, h.1, (lists body).program h.2)), λ files h. (h.1.0, h.2), λ more e none h. (Terms h.2, tt))
form_like here (Op.Declaration Declaration.ThermalZone) (MoreFrom (Use at name) s NoneFrom) body = rw (s.leaf refl) (made _ refl (search) (λ h. (h.0, h.1, (lists body).program h.2)), λ files h. (h.1.0, h.2), λ more e none h. (Terms h.2, tt))
form_like here (Op.Declaration Declaration.PowerResource) (MoreFrom (Use at name) s (MoreFrom (Integer level) t (MoreFrom (Integer order) u NoneFrom))) body = rw (s.leaf refl, t.leaf tt, u.leaf tt) (made _ refl (search) (λ h. (h.0, h.1, (lists body).program h.2)), λ files h. (h.1.0, h.2), λ more e none h. (Terms h.2, tt))
form_like here (Op.Declaration Declaration.Processor) (MoreFrom (Use at name) s (MoreFrom (Integer number) t (MoreFrom (Integer address) u (MoreFrom (Integer size) v NoneFrom)))) body = rw (s.leaf refl, t.leaf tt, u.leaf tt, v.leaf tt) (made _ refl (search) (λ h. (h.0, h.1, (lists body).program h.2)), λ files h. (h.1.0, h.2), λ more e none h. (Terms h.2, tt))
form_like here (Op.Declaration Declaration.Scope) (MoreFrom (Use at name) s NoneFrom) body = rw (s.leaf refl) (made _ refl (search) (λ h. (h.0, (lists body).program h.1)), λ files h. (h.0, h.1.0, h.2), λ more e none h. (Terms h.1, tt))
form_like here (Op.Declaration Declaration.OperationRegion) (MoreFrom (Use at name) s (MoreFrom (Integer space) t (MoreFrom offset u (MoreFrom size v NoneFrom)))) NoneFrom = rw (s.leaf refl, t.leaf tt) (made _ refl (search) (λ h. (h.0, h.1, ((u.value h.2.0.0, u.term h.2.0.1), ((v.value h.2.1.0.0, v.term h.2.1.0.1), tt)))), λ files h. (h.1.0, (h.1.1.1.0, (h.1.1.1.1.0, tt))), λ more e. absurd cc)
form_like {p} here (Op.Declaration Declaration.Field) {ts} {us} {bs} (MoreFrom (Use from region) s (MoreFrom (Integer flags) t NoneFrom)) body =
    let k = listed {p = p} here ts (λ items. Field here from region flags items) (λ items. Field here from region flags items) (λ items within. (same _, λ files h. (h.0, h.1.0, within files h.2))) (items_like body) in rw (s.leaf refl, t.leaf tt) (k.0, k.1, λ more e. absurd cc)
form_like {p} here (Op.Declaration Declaration.IndexField) {ts} {us} {bs} (MoreFrom (Use from index) s (MoreFrom (Use to register) t (MoreFrom (Integer flags) u NoneFrom))) body =
    let k = listed {p = p} here ts (λ items. IndexField here from index to register flags items) (λ items. IndexField here from index to register flags items) (λ items within. (same _, λ files h. (h.0, h.1.0, h.1.1.0, within files h.2))) (items_like body) in rw (s.leaf refl, t.leaf refl, u.leaf tt) (k.0, k.1, λ more e. absurd cc)
form_like {p} here (Op.Declaration Declaration.BankField) {ts} {us} {bs} (MoreFrom (Use from region) s (MoreFrom (Use to bank) t (MoreFrom value {u = other} u (MoreFrom (Integer flags) v NoneFrom)))) body =
    let k = listed {p = p} here ts (λ items. BankField here from region to bank value flags items) (λ items. BankField here from region to bank other flags items)
    (λ items within. (made _ refl (search) (λ h. (h.0, h.1, u.value h.2, u.term h.3, h.4, h.5)), λ files h. (h.0, h.1.0, h.1.1.0, h.1.1.1.0, within files h.2))) (items_like body) in
    rw (s.leaf refl, t.leaf refl, v.leaf tt) (k.0, k.1, λ more e. absurd cc)
form_like here (Op.Declaration Declaration.CreateField) (MoreFrom source s (MoreFrom index t (MoreFrom bits u (MoreFrom (Use at name) v NoneFrom)))) NoneFrom =
    rw (v.leaf refl) (made _ refl (search) (λ h. (((s.value h.0.0.0, s.term h.0.0.1), ((t.value h.0.1.0.0, t.term h.0.1.0.1), ((u.value h.0.1.1.0.0, u.term h.0.1.1.0.1), tt))), h.1)), λ files h. ((h.1.0, (h.1.1.0, (h.1.1.1.0, tt))), h.1.1.1.1.0), λ more e. absurd cc)
form_like here (Op.Declaration Declaration.CreateBitField) (MoreFrom source s (MoreFrom index t (MoreFrom (Use at name) u NoneFrom))) NoneFrom = rw (u.leaf refl) (made _ refl (search) (λ h. (((s.value h.0.0.0, s.term h.0.0.1), ((t.value h.0.1.0.0, t.term h.0.1.0.1), tt)), h.1)), λ files h. ((h.1.0, (h.1.1.0, tt)), h.1.1.1.0), λ more e. absurd cc)
form_like here (Op.Declaration Declaration.CreateByteField) (MoreFrom source s (MoreFrom index t (MoreFrom (Use at name) u NoneFrom))) NoneFrom = rw (u.leaf refl) (made _ refl (search) (λ h. (((s.value h.0.0.0, s.term h.0.0.1), ((t.value h.0.1.0.0, t.term h.0.1.0.1), tt)), h.1)), λ files h. ((h.1.0, (h.1.1.0, tt)), h.1.1.1.0), λ more e. absurd cc)
form_like here (Op.Declaration Declaration.CreateWordField) (MoreFrom source s (MoreFrom index t (MoreFrom (Use at name) u NoneFrom))) NoneFrom = rw (u.leaf refl) (made _ refl (search) (λ h. (((s.value h.0.0.0, s.term h.0.0.1), ((t.value h.0.1.0.0, t.term h.0.1.0.1), tt)), h.1)), λ files h. ((h.1.0, (h.1.1.0, tt)), h.1.1.1.0), λ more e. absurd cc)
form_like here (Op.Declaration Declaration.CreateDWordField) (MoreFrom source s (MoreFrom index t (MoreFrom (Use at name) u NoneFrom))) NoneFrom = rw (u.leaf refl) (made _ refl (search) (λ h. (((s.value h.0.0.0, s.term h.0.0.1), ((t.value h.0.1.0.0, t.term h.0.1.0.1), tt)), h.1)), λ files h. ((h.1.0, (h.1.1.0, tt)), h.1.1.1.0), λ more e. absurd cc)
form_like here (Op.Declaration Declaration.CreateQWordField) (MoreFrom source s (MoreFrom index t (MoreFrom (Use at name) u NoneFrom))) NoneFrom = rw (u.leaf refl) (made _ refl (search) (λ h. (((s.value h.0.0.0, s.term h.0.0.1), ((t.value h.0.1.0.0, t.term h.0.1.0.1), tt)), h.1)), λ files h. ((h.1.0, (h.1.1.0, tt)), h.1.1.1.0), λ more e. absurd cc)
form_like here (Op.Control Control.Return) (MoreFrom value t NoneFrom) NoneFrom = (made _ refl (search) (λ h. (t.value h.0, t.term h.1)), λ files h. h.1.0, λ more e none h. (Terms tt, rw (none refl) tt))
form_like here (Op.Control Control.If) (MoreFrom test t NoneFrom) body = (made _ refl (search) (λ h. (t.value h.0, t.term h.1, (lists body).program h.2)), λ files h. (h.1.0, h.2), λ more e none h. (Terms h.2, tt))
form_like here (Op.Control Control.ElseIf) (MoreFrom test t NoneFrom) body = (made _ refl (search) (λ h. (t.value h.0, t.term h.1, (lists body).program h.2)), λ files h. (h.1.0, h.2), λ more e none h. (Terms h.2, tt))
form_like here (Op.Control Control.Else) NoneFrom body = (made _ refl (search) (λ h. (lists body).program h), λ files h. h.2, λ more e none h. (Terms h, tt))
form_like here (Op.Control Control.While) (MoreFrom test t NoneFrom) body = (made _ refl (search) (λ h. (t.value h.0, t.term h.1, (lists body).program h.2)), λ files h. (h.1.0, h.2), λ more e none h. (Terms h.2, tt))
form_like here (Op.Control Control.For) (MoreFrom start s (MoreFrom test t (MoreFrom step u NoneFrom))) body = (made _ refl (search) (λ h. (h.0, effect start s h.1, t.value h.2, t.term h.3, effect step u h.4, (lists body).program h.5)), λ files h. (h.1.0, h.1.1.0, h.1.1.1.0, h.2), λ more e none h. (Terms h.5, tt))
form_like here (Op.Control Control.Printf) (MoreFrom (String text) s args) NoneFrom = rw (s.leaf tt) (made _ refl (search) (λ h. (h.0, h.1, h.2, (lists args).arguments h.3, (lists args).many ∙ h.4)), λ files h. (tt, h.1.1), λ more e none h. (Terms tt, rw (none refl) tt))
form_like here (Op.Control Control.Fprintf) (MoreFrom place s (MoreFrom (String text) t args)) NoneFrom = rw (t.leaf tt) (made _ refl (search) (λ h. (h.0, s.spot refl h.1, h.2, (lists args).arguments h.3, (lists args).many ∙ h.4)), λ files h. (h.1.0, h.1.1.1), λ more e none h. (Terms tt, rw (none refl) tt))
form_like here (Op.Control Control.Switch) (MoreFrom value t NoneFrom) cases = (made _ refl (search) (λ h. (h.0, t.value h.1, t.term h.2, (lists cases).cases h.3)), λ files h. (h.1.0, h.2), λ more e none h. (InSwitch h.3, tt))
form_like here (Op.Control Control.Case) (MoreFrom value t NoneFrom) body = (made _ refl (record { no_else = search; followed = search; cases = λ ts us e go h. (t.compared h.0, (lists body).program h.1, go h.2); shaped = search; value = search; spot = search }) (λ h. h), λ files h. (h.1.0, h.2), λ more e none h. (Terms h, tt))
form_like here (Op.Control Control.Default) NoneFrom body = (made _ refl (record { no_else = search; followed = search; cases = λ ts us e go h. last_case _ _ (lists body).program ts us e h; shaped = search; value = search; spot = search }) (λ h. h), λ files h. h.2, λ more e none h. (Terms h, tt))
form_like here (Op.Control Control.Break) NoneFrom NoneFrom = (same _, λ files h. tt, λ more e none h. (Terms tt, rw (none refl) tt))
form_like here (Op.Control Control.Continue) NoneFrom NoneFrom = (same _, λ files h. tt, λ more e none h. (Terms tt, rw (none refl) tt))
form_like here (Op.Literal literal) NoneFrom NoneFrom = (same _, λ files h. tt, λ more e. absurd cc)
form_like {p} here (Op.Plain op) args NoneFrom = let k = apply_like {p = p} op args in (k.0, λ files h. k.1 files h.1, λ more e. absurd cc)
form_like here (Op.Special Special.CondRefOf) (MoreFrom place s (MoreFrom target t NoneFrom)) NoneFrom = (made _ refl (search) (λ h. (s.spot refl h.0, t.spot refl h.1)), λ files h. (h.1.0, h.1.1.0), λ more e. absurd cc)
form_like {p} here (Op.Special Special.Buffer) {bs = bs} {cs = cs} (MoreFrom size s NoneFrom) body = let k = buffer_like {p = p} size s (body_bytes bs) (body_bytes cs) in (k.0, λ files h. k.1 files h.1.0, λ more e. absurd cc)
form_like {p} here (Op.Special Special.Package) (MoreFrom size s NoneFrom) elements = let k = packaged_like {p = p} size s (lists elements) in (k.0, λ files h. k.1 files (h.1.0, h.2), λ more e. absurd cc)
form_like {p} here (Op.Symbolic (Symbolic.Operator op)) args NoneFrom = let k = symbol_like {p = p} op args in (k.0, λ files h. k.1 files h.1, λ more e. absurd cc)
form_like here (Op.Symbolic Symbolic.Assign) (MoreFrom target s (MoreFrom value t NoneFrom)) NoneFrom = (made _ refl (search) (λ h. (h.0, s.spot refl h.1, t.value h.2, t.term h.3)), λ files h. (h.1.0, h.1.1.0), λ more e. absurd cc)
form_like here (Op.Symbolic (Symbolic.AssignBy op)) (MoreFrom target s (MoreFrom value t NoneFrom)) NoneFrom = (made _ refl (search) (λ h. (h.0, s.spot refl h.1, s.value h.2, s.term h.3, t.value h.4, t.term h.5)), λ files h. (h.1.0, h.1.1.0), λ more e. absurd cc)
form_like here _ _ _ = (nothing _, λ files h. tt, λ more e none h. absurd h)
