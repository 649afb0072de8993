-- The passes over a row come to what it is worth by the rules of the levels, and to nothing else.
use Rattle.std.proofs.Common.{◌≡◌, ℕ, zero, suc, ◌+◌, ◌<◌, ◌≤◌, Bool, true, false, List, [], ◌∷◌, ◌++◌, Option, Some, None, refl, sym, ap, subst, ◌∙◌, arith, append_assoc}
use Rattle.std.proofs.lemmas.Bool.{eqb-true}
use Rattle.std.proofs.lemmas.Bool.Decides.{nat_tests}
use Rattle.std.specs.Prelude.{if◌then◌else◌, ◌==◌}
use Rattle.std.specs.Option.{option_and_then, option_map}
use Rattle.asl_conditions.specs.declared.operators.ConditionInfix.{ConditionInfix}
use Rattle.asl_conditions.specs.declared.operators.ConditionInfix.TheVariants as op
use Rattle.asl_conditions.specs.declared.operators.Operand.{Operand}
use Rattle.asl_conditions.specs.Operators.{apply, level_of, operand, with_left, pass, passes, row_value}
use Rattle.asl_conditions.specs.Worth.{IsWorth}
use Rattle.asl_conditions.specs.Worth as w
use Rattle.asl_conditions.proofs.Rows.{Passed}

-- ---- small facts

highest : (o : ConditionInfix) → level_of o ≤ 10
highest op.Multiply = omega arith
highest op.Divide = omega arith
highest op.Remainder = omega arith
highest op.Add = omega arith
highest op.Subtract = omega arith
highest op.ShiftLeft = omega arith
highest op.ShiftRight = omega arith
highest op.Less = omega arith
highest op.AtMost = omega arith
highest op.Greater = omega arith
highest op.AtLeast = omega arith
highest op.Equal = omega arith
highest op.Unequal = omega arith
highest op.BitAnd = omega arith
highest op.BitXor = omega arith
highest op.BitOr = omega arith
highest op.Both = omega arith
highest op.Either = omega arith

lowest : (o : ConditionInfix) → 0 < level_of o
lowest op.Multiply = omega arith
lowest op.Divide = omega arith
lowest op.Remainder = omega arith
lowest op.Add = omega arith
lowest op.Subtract = omega arith
lowest op.ShiftLeft = omega arith
lowest op.ShiftRight = omega arith
lowest op.Less = omega arith
lowest op.AtMost = omega arith
lowest op.Greater = omega arith
lowest op.AtLeast = omega arith
lowest op.Equal = omega arith
lowest op.Unequal = omega arith
lowest op.BitAnd = omega arith
lowest op.BitXor = omega arith
lowest op.BitOr = omega arith
lowest op.Both = omega arith
lowest op.Either = omega arith

bind_ok : {A B : Type 0} (f : A → Option B) (o : Option A) (y : B) → option_and_then f o ≡ Some y → (x : A) × (o ≡ Some x) × (f x ≡ Some y)
bind_ok f None y e = absurd cc
bind_ok f (Some x) y e = (x, refl, e)

map_ok : {A B : Type 0} (f : A → B) (o : Option A) (y : B) → option_map f o ≡ Some y → (x : A) × (o ≡ Some x) × (f x ≡ y)
map_ok f None y e = absurd cc
map_ok f (Some x) y e = (x, refl, cc)

some_same : {A : Type 0} (p q : A) → Some p ≡ Some q → p ≡ q
some_same p q e = cc

unequal : (a b : ℕ) → (a == b) ≡ false → b ≤ a → b < a
unequal a b e h = grind (arith, nat_tests)

-- what comes behind an operand whose value is known
after_by : Bool → ℕ → Operand → List Operand → ℕ → Option Passed
after_by b level x row last = if b then pass level (Some x) row last else option_map (λ (r : Passed). (x ∷ r.0, r.1)) (pass level None row last)

pass_is : (level : ℕ) (left : Option Operand) (x : Operand) (row : List Operand) (last : ℕ) → pass level left (x ∷ row) last ≡ option_and_then (λ v. after_by (level_of x.operator == level) level (operand v x.operator) row last) (with_left left x.value)
unfolding pass after_by
pass_is level left x row last = refl

-- ---- what the passes give is what the row is worth

-- The row falls into rows of at most a level, between operators above it: these operands and this last one are
-- what the rows are worth.
data Falls : ℕ → List Operand → ℕ → List Operand → ℕ → Type 0 where
  whole : {n last v : ℕ} {xs : List Operand} → IsWorth n xs last v → Falls n xs last [] v
  split : {n x last u z : ℕ} (o : ConditionInfix) (xs ys : List Operand) {zs : List Operand} → IsWorth n xs x u → n < level_of o → Falls n ys last zs z → Falls n (xs ++ operand x o ∷ ys) last (operand u o ∷ zs) z

falls_apart : (xs : List Operand) (last : ℕ) → Falls 0 xs last xs last
falls_apart [] last = whole w.alone
falls_apart (x ∷ xs) last = split x.operator [] xs w.alone (lowest x.operator) (falls_apart xs last)

-- a row before the next operator of the level
record Waits (n : ℕ) (l : Operand) (xs : List Operand) (x : ℕ) : Type 0 where
  worth : IsWorth (suc n) xs x l.value
  level : level_of l.operator ≡ suc n

abbrev Steps : ℕ → List Operand → ℕ → List Operand → ℕ → Type 0
Steps n ys last zs z =
    ((ws : List Operand) (u : ℕ) → pass (suc n) None zs z ≡ Some (ws, u) → Falls (suc n) ys last ws u)
    × ((l : Operand) (xs : List Operand) (x : ℕ) → Waits n l xs x → (ws : List Operand) (u : ℕ) → pass (suc n) (Some l) zs z ≡ Some (ws, u) → Falls (suc n) (xs ++ operand x l.operator ∷ ys) last ws u)

whole_steps : (n last v : ℕ) (ys : List Operand) → IsWorth n ys last v → Steps n ys last [] v
unfolding pass
whole_steps n last v ys worth = (
  λ ws u e.
      let P : Type 0 = Passed in
      let same = some_same {A = P} ([], v) (ws, u) e in
      subst (λ (r : Passed). Falls (suc n) ys last r.0 r.1) same (whole (w.tighter worth)),
  λ l xs x waits ws u e.
      let m = map_ok {B = Passed} (λ value. ([], value)) (apply l.operator l.value v) (ws, u) e in
      subst (λ (r : Passed). Falls (suc n) (xs ++ operand x l.operator ∷ ys) last r.0 r.1) m.2 (whole (w.applied l.operator xs ys waits.level waits.worth worth m.1)),
)

after_steps : (n last v y z : ℕ) (o : ConditionInfix) (ls ys zs : List Operand) (b : Bool) → (level_of o == suc n) ≡ b → IsWorth (suc n) ls y v → n < level_of o → Steps n ys last zs z
    → (ws : List Operand) (u : ℕ) → after_by b (suc n) (operand v o) zs z ≡ Some (ws, u) → Falls (suc n) (ls ++ operand y o ∷ ys) last ws u
unfolding after_by
after_steps n last v y z o ls ys zs true is worth above steps ws u e = steps.1 (operand v o) ls y (record { worth = worth; level = eqb-true (level_of o) (suc n) is }) ws u e
after_steps n last v y z o ls ys zs false is worth above steps ws u e =
    let m = map_ok {B = Passed} (λ (r : Passed). (operand v o ∷ r.0, r.1)) (pass (suc n) None zs z) (ws, u) e in
    let more : suc n < level_of o = unequal (level_of o) (suc n) is (omega arith) in
    subst (λ (r : Passed). Falls (suc n) (ls ++ operand y o ∷ ys) last r.0 r.1) m.2 (split o ls ys worth more (steps.0 m.0.0 m.0.1 m.1))

split_steps : (n last v y z : ℕ) (o : ConditionInfix) (ys1 ys2 zs : List Operand) → IsWorth n ys1 y v → n < level_of o → Steps n ys2 last zs z → Steps n (ys1 ++ operand y o ∷ ys2) last (operand v o ∷ zs) z
unfolding pass after_by
split_steps n last v y z o ys1 ys2 zs worth above steps = (
  λ ws u e. after_steps n last v y z o ys1 ys2 zs (level_of o == suc n) refl (w.tighter worth) above steps ws u e,
  λ l xs x waits ws u e.
      let m = bind_ok (λ value. after_by (level_of o == suc n) (suc n) (operand value o) zs z) (apply l.operator l.value v) (ws, u) e in
      subst (λ rs. Falls (suc n) rs last ws u) (append_assoc xs (operand x l.operator ∷ ys1) (operand y o ∷ ys2))
      (after_steps n last m.0 y z o (xs ++ operand x l.operator ∷ ys1) ys2 zs (level_of o == suc n) refl (w.applied l.operator xs ys1 waits.level waits.worth worth m.1) above steps ws u m.2),
)

falls_steps : {n last z : ℕ} {ys zs : List Operand} → Falls n ys last zs z → Steps n ys last zs z
falls_steps (whole {n = n} {last = last} {v = v} {xs = xs} worth) = whole_steps n last v xs worth
falls_steps (split {n = n} {x = x} {last = last} {u = u} {z = z} o xs ys {zs} worth above rest) = split_steps n last u x z o xs ys zs worth above (falls_steps rest)

no_more : {n last z : ℕ} {ys zs : List Operand} → Falls n ys last zs z → n ≡ 10 → IsWorth 10 ys last z
no_more (whole {last = last} {v = v} {xs = xs} worth) e = subst (λ m. IsWorth m xs last v) e worth
no_more (split o xs ys worth above rest) e = let top : level_of o ≤ 10 = highest o in absurd (omega arith)

passes_are : (k n level last z v : ℕ) (ys zs : List Operand) → n + k ≡ 10 → level ≡ suc n → Falls n ys last zs z → passes k level zs z ≡ Some v → IsWorth 10 ys last v
unfolding passes
passes_are zero n level last z v ys zs e same falls h = subst (IsWorth 10 ys last) (some_same z v h) (no_more falls (omega arith))
passes_are (suc k) n level last z v ys zs e same falls h =
    let m = bind_ok (λ (r : Passed). passes k (level + 1) r.0 r.1) (pass level None zs z) v h in
    passes_are k (suc n) (level + 1) last m.0.1 v ys m.0.0 (omega arith) (omega arith) ((falls_steps falls).0 m.0.0 m.0.1 (ap (λ m. pass m None zs z) (sym same) ∙ m.1)) m.2

pub value_is_worth : (xs : List Operand) (last v : ℕ) → row_value xs last ≡ Some v → IsWorth 10 xs last v
value_is_worth xs last v h = passes_are 10 0 1 last last v xs xs refl refl (falls_apart xs last) h

-- ---- what the row is worth is what the passes give

-- so many passes from a level on
reduced : ℕ → ℕ → List Operand → ℕ → Option Passed
reduced zero level xs last = Some (xs, last)
reduced (suc k) level xs last = option_and_then (λ (r : Passed). reduced k (level + 1) r.0 r.1) (pass level None xs last)

passes_reduced : (k level : ℕ) (xs : List Operand) (last : ℕ) (p : Passed) → reduced k level xs last ≡ Some p → passes k level xs last ≡ Some p.1
unfolding reduced passes
passes_reduced zero level xs last p e = let same = some_same {A = Passed} (xs, last) p e in ap (λ (r : Passed). Some r.1) same
passes_reduced (suc k) level xs last p e =
    let m = bind_ok (λ (r : Passed). reduced k (level + 1) r.0 r.1) (pass level None xs last) p e in
    ap (option_and_then (λ (r : Passed). passes k (level + 1) r.0 r.1)) m.1 ∙ passes_reduced k (level + 1) m.0.0 m.0.1 p m.2

reduced_none : (k level last : ℕ) → reduced k level [] last ≡ Some ([], last)
unfolding reduced pass
reduced_none zero level last = refl
reduced_none (suc k) level last = reduced_none k (level + 1) last

-- one pass more, behind the others
last_pass : (k level : ℕ) (xs : List Operand) (last : ℕ) (p r : Passed) → reduced k level xs last ≡ Some p → pass (level + k) None p.0 p.1 ≡ Some r → reduced (suc k) level xs last ≡ Some r
unfolding reduced
last_pass zero level xs last p r e f =
    let same = some_same {A = Passed} (xs, last) p e in
    let there : pass level None xs last ≡ Some r = subst (λ (q : Passed). pass level None q.0 q.1 ≡ Some r) (sym same) (subst (λ m. pass m None p.0 p.1 ≡ Some r) (omega arith) f) in
    ap (option_and_then (λ (q : Passed). Some (q.0, q.1))) there
last_pass (suc k) level xs last p r e f =
    let m = bind_ok (λ (q : Passed). reduced k (level + 1) q.0 q.1) (pass level None xs last) p e in
    let same : level + suc k ≡ level + 1 + k = omega arith in
    ap (option_and_then (λ (q : Passed). reduced (suc k) (level + 1) q.0 q.1)) m.1 ∙ last_pass k (level + 1) m.0.0 m.0.1 p r m.2 (subst (λ n. pass n None p.0 p.1 ≡ Some r) same f)

record Before (k level : ℕ) (xs : List Operand) (last : ℕ) (r : Passed) : Type 0 where
  p : Passed
  others : reduced k level xs last ≡ Some p
  one : pass (level + k) None p.0 p.1 ≡ Some r

before_last : (k level : ℕ) (xs : List Operand) (last : ℕ) (r : Passed) → reduced (suc k) level xs last ≡ Some r → Before k level xs last r
unfolding reduced
before_last zero level xs last r e =
    let m = bind_ok (λ (q : Passed). Some (q.0, q.1)) (pass level None xs last) r e in
    let same = some_same {A = Passed} m.0 r m.2 in
    record { p = (xs, last); others = refl; one = subst (λ n. pass n None xs last ≡ Some r) (omega arith) (m.1 ∙ ap (λ (q : Passed). Some q) same) }
before_last (suc k) level xs last r e =
    let m = bind_ok (λ (q : Passed). reduced (suc k) (level + 1) q.0 q.1) (pass level None xs last) r e in
    let more = before_last k (level + 1) m.0.0 m.0.1 r m.2 in
    record { p = more.p; others = ap (option_and_then (λ (q : Passed). reduced k (level + 1) q.0 q.1)) m.1 ∙ more.others; one = subst (λ n. pass n None more.p.0 more.p.1 ≡ Some r) (omega arith) more.one }

-- a pass goes over an operator of another level
abbrev joined : ConditionInfix → Passed → Passed → Passed
joined o p q = (p.0 ++ operand p.1 o ∷ q.0, q.1)

append_by : (b : Bool) (level : ℕ) (a : Operand) (xs ys : List Operand) (x last : ℕ) (o : ConditionInfix) (p q : Passed)
    → ((left : Option Operand) (p : Passed) → pass level left xs x ≡ Some p → pass level left (xs ++ operand x o ∷ ys) last ≡ Some (joined o p q))
    → after_by b level a xs x ≡ Some p → after_by b level a (xs ++ operand x o ∷ ys) last ≡ Some (joined o p q)
unfolding after_by
append_by true level a xs ys x last o p q others e = others (Some a) p e
append_by false level a xs ys x last o p q others e =
    let m = map_ok {B = Passed} (λ (r : Passed). (a ∷ r.0, r.1)) (pass level None xs x) p e in
    ap (option_map (λ (r : Passed). (a ∷ r.0, r.1))) (others None m.0 m.1) ∙ ap (λ (r : Passed). Some (joined o r q)) m.2

pass_append : (level : ℕ) (left : Option Operand) (xs ys : List Operand) (x last : ℕ) (o : ConditionInfix) (p q : Passed) → (level_of o == level) ≡ false → pass level left xs x ≡ Some p → pass level None ys last ≡ Some q
    → pass level left (xs ++ operand x o ∷ ys) last ≡ Some (joined o p q)
unfolding pass after_by
pass_append level left [] ys x last o p q other e f =
    let m = map_ok {B = Passed} (λ value. ([], value)) (with_left left x) p e in
    ap (option_and_then (λ v. after_by (level_of o == level) level (operand v o) ys last)) m.1 ∙ ap (λ b. after_by b level (operand m.0 o) ys last) other
    ∙ ap (option_map (λ (r : Passed). (operand m.0 o ∷ r.0, r.1))) f ∙ ap (λ (r : Passed). Some (joined o r q)) m.2
pass_append level left (y ∷ xs) ys x last o p q other e f =
    let m = bind_ok (λ v. after_by (level_of y.operator == level) level (operand v y.operator) xs x) (with_left left y.value) p e in
    ap (option_and_then (λ v. after_by (level_of y.operator == level) level (operand v y.operator) (xs ++ operand x o ∷ ys) last)) m.1
    ∙ append_by (level_of y.operator == level) level (operand m.0 y.operator) xs ys x last o p q (λ l r h. pass_append level l xs ys x last o r q other h f) m.2

above : (a b : ℕ) → b < a → (a == b) ≡ false
above a b h = grind (arith, nat_tests)

reduced_append : (k level : ℕ) (xs ys : List Operand) (x last : ℕ) (o : ConditionInfix) (p q : Passed) → level + k ≤ level_of o → reduced k level xs x ≡ Some p → reduced k level ys last ≡ Some q
    → reduced k level (xs ++ operand x o ∷ ys) last ≡ Some (joined o p q)
unfolding reduced
reduced_append zero level xs ys x last o p q h e f =
    let first = some_same {A = Passed} (xs, x) p e in
    let second = some_same {A = Passed} (ys, last) q f in
    ap (λ (r : Passed). Some (joined o r (ys, last))) first ∙ ap (λ (r : Passed). Some (joined o p r)) second
reduced_append (suc k) level xs ys x last o p q h e f =
    let m = bind_ok (λ (r : Passed). reduced k (level + 1) r.0 r.1) (pass level None xs x) p e in
    let n = bind_ok (λ (r : Passed). reduced k (level + 1) r.0 r.1) (pass level None ys last) q f in
    ap (option_and_then (λ (r : Passed). reduced k (level + 1) r.0 r.1)) (pass_append level None xs ys x last o m.0 n.0 (above (level_of o) level (omega arith)) m.1 n.1)
    ∙ reduced_append k (level + 1) m.0.0 n.0.0 m.0.1 n.0.1 o p q (omega arith) m.2 n.2

-- the last operator of a level is applied last
last_by : (b : Bool) (level : ℕ) (a : Operand) (zs : List Operand) (z u v r : ℕ) (o : ConditionInfix) → ((left : Option Operand) → pass level left zs z ≡ Some ([], u) → pass level left (zs ++ operand z o ∷ []) v ≡ Some ([], r))
    → after_by b level a zs z ≡ Some ([], u) → after_by b level a (zs ++ operand z o ∷ []) v ≡ Some ([], r)
unfolding after_by
last_by true level a zs z u v r o others e = others (Some a) e
last_by false level a zs z u v r o others e =
    let m = map_ok {B = Passed} (λ (q : Passed). (a ∷ q.0, q.1)) (pass level None zs z) ([], u) e in
    let none : a ∷ m.0.0 ≡ [] = ap (λ (q : Passed). q.0) m.2 in
    absurd cc

pass_last : (level : ℕ) (left : Option Operand) (zs : List Operand) (z u v r : ℕ) (o : ConditionInfix) → (level_of o == level) ≡ true → pass level left zs z ≡ Some ([], u) → apply o u v ≡ Some r
    → pass level left (zs ++ operand z o ∷ []) v ≡ Some ([], r)
unfolding pass after_by
pass_last level left [] z u v r o is e f =
    let m = map_ok {B = Passed} (λ value. ([], value)) (with_left left z) ([], u) e in
    let same : m.0 ≡ u = ap (λ (q : Passed). q.1) m.2 in
    ap (option_and_then (λ x. after_by (level_of o == level) level (operand x o) [] v)) m.1 ∙ ap (λ b. after_by b level (operand m.0 o) [] v) is
    ∙ ap (λ x. option_map {U = Passed} (λ value. ([], value)) (apply o x v)) same ∙ ap (option_map {U = Passed} (λ value. ([], value))) f
pass_last level left (y ∷ zs) z u v r o is e f =
    let m = bind_ok (λ x. after_by (level_of y.operator == level) level (operand x y.operator) zs z) (with_left left y.value) ([], u) e in
    ap (option_and_then (λ x. after_by (level_of y.operator == level) level (operand x y.operator) (zs ++ operand z o ∷ []) v)) m.1
    ∙ last_by (level_of y.operator == level) level (operand m.0 y.operator) zs z u v r o (λ l h. pass_last level l zs z u v r o is h f) m.2

equal : (a b : ℕ) → a ≡ b → (a == b) ≡ true
equal a b h = grind (arith, nat_tests)

pass_none : (level v : ℕ) → pass level None [] v ≡ Some ([], v)
unfolding pass
pass_none level v = refl

worth_reduced : {n last v : ℕ} {xs : List Operand} → IsWorth n xs last v → reduced n 1 xs last ≡ Some ([], v)
worth_reduced (w.alone {level = n} {x = x}) = reduced_none n 1 x
worth_reduced (w.tighter {level = n} {last = last} {value = v} {xs = xs} inner) = last_pass n 1 xs last ([], v) ([], v) (worth_reduced inner) (pass_none (1 + n) v)
worth_reduced (w.applied {level = n} {x = x} {last = last} {u = u} {v = v} {value = r} o xs ys is first second gives) =
    let b = before_last n 1 xs x ([], u) (worth_reduced first) in
    last_pass n 1 (xs ++ operand x o ∷ ys) last (b.p.0 ++ operand b.p.1 o ∷ [], v) ([], r) (reduced_append n 1 xs ys x last o b.p ([], v) (omega arith) b.others (worth_reduced second))
    (pass_last (1 + n) None b.p.0 b.p.1 u v r o (equal (level_of o) (1 + n) (omega arith)) b.one gives)

pub worth_is_value : (xs : List Operand) (last v : ℕ) → IsWorth 10 xs last v → row_value xs last ≡ Some v
worth_is_value xs last v is = passes_reduced 10 1 xs last ([], v) (worth_reduced is)
