-- A term that names no further Locals, and in which Switches and Continues stand as in another, has Locals enough where the other has.
use Rattle.std.proofs.Common.{◌≡◌, ℕ, suc, ◌+◌, ◌≤◌, Bool, true, false, List, [], ◌∷◌, ◌++◌, length, refl, ap, ◌∙◌, arith}
use Rattle.std.specs.Prelude.{if◌then◌else◌, nat_eq, not, ◌||◌, filter}
use Rattle.acpi_state.specs.Objects.{Container}
use Rattle.asl_tree.specs.declared.path.Path.{Path}
use Rattle.asl_tree.specs.Tree.{At, Tree, Method, Container', Scope, If, ElseIf, Else, While, For, Switch, Case, Default, Trees, tree}
use Rattle.hidden_locals.specs.Crossing.{has_continue, have_continue}
use Rattle.hidden_locals.specs.Locals.{locals, locals_all, is_named}
use Rattle.hidden_locals.specs.Turns.{others}
use Rattle.hidden_locals.specs.Switches.{depth, depth_all, is_crossed, are_crossed, IsEnough, HasLocals, HaveLocalsInside, HaveLocals}
use Rattle.hidden_locals.proofs.Named.{either_true, named_left, named_right}

-- ---- Locals that are named

abbrev pub Fewer : List ℕ → List ℕ → Type 0
Fewer xs ys = (i : ℕ) → is_named xs i ≡ true → is_named ys i ≡ true

never : {A : Type 0} → false ≡ true → A
never e = absurd cc

pub fewer_none : (ys : List ℕ) → Fewer [] ys
fewer_none ys i e = never e

pub fewer_join : (xs ys zs : List ℕ) → Fewer xs zs → Fewer ys zs → Fewer (xs ++ ys) zs
fewer_join [] ys zs h k = k
fewer_join (x ∷ xs) ys zs h k = λ i e. by i (nat_eq i x) refl e (fewer_join xs ys zs (λ j f. h j (either_true (nat_eq j x) (is_named xs j) f)) k)
  where
    by : (i : ℕ) (b : Bool) → nat_eq i x ≡ b → (b || is_named (xs ++ ys) i) ≡ true → Fewer (xs ++ ys) zs → is_named zs i ≡ true
    by i true c e go = h i (ap (λ b. b || is_named xs i) c)
    by i false c e go = go i e

pub fewer_left : (xs ys zs : List ℕ) → Fewer xs ys → Fewer xs (ys ++ zs)
fewer_left xs ys zs h i e = named_left ys zs i (h i e)

pub fewer_right : (xs ys zs : List ℕ) → Fewer xs zs → Fewer xs (ys ++ zs)
fewer_right xs ys zs h i e = named_right ys zs i (h i e)

pub fewer_both : (xs xs' ys ys' : List ℕ) → Fewer xs xs' → Fewer ys ys' → Fewer (xs ++ ys) (xs' ++ ys')
fewer_both xs xs' ys ys' h k = fewer_join xs ys (xs' ++ ys') (fewer_left xs xs' ys' h) (fewer_right ys xs' ys' k)

filter_more : (p q : ℕ → Bool) (zs : List ℕ) → ((i : ℕ) → p i ≡ true → q i ≡ true) → length (filter p zs) ≤ length (filter q zs)
filter_more p q [] h = omega arith
filter_more p q (z ∷ zs) h = by (p z) (q z) (h z) (filter_more p q zs h)
  where
    by : (b c : Bool) → (b ≡ true → c ≡ true) → length (filter p zs) ≤ length (filter q zs) → length (if b then z ∷ filter p zs else filter p zs) ≤ length (if c then z ∷ filter q zs else filter q zs)
    by true true e le = omega (arith, le)
    by true false e le = never (e refl)
    by false true e le = omega (arith, le)
    by false false e le = le

others_more : (xs ys : List ℕ) → Fewer xs ys → length (others ys) ≤ length (others xs)
others_more xs ys h = filter_more (λ i. not (is_named ys i)) (λ i. not (is_named xs i)) (0 ∷ 1 ∷ 2 ∷ 3 ∷ 4 ∷ 5 ∷ 6 ∷ 7 ∷ []) (λ i. by (is_named xs i) (is_named ys i) (h i))
  where
    by : (b c : Bool) → (b ≡ true → c ≡ true) → not c ≡ true → not b ≡ true
    by true true e k = k
    by true false e k = never (e refl)
    by false c e k = refl

-- ---- terms

pub record Steady (t' t : Tree) : Type 0 where
  pub same_depth : depth t' ≡ depth t
  pub same_crossed : is_crossed t' ≡ is_crossed t
  pub same_continue : has_continue t' ≡ has_continue t
  pub fewer : Fewer (locals t') (locals t)
  pub has : HasLocals t → HasLocals t'

pub record SteadyAll (ts' ts : Trees) : Type 0 where
  pub same_depth : depth_all ts' ≡ depth_all ts
  pub same_crossed : are_crossed ts' ≡ are_crossed ts
  pub same_continue : have_continue ts' ≡ have_continue ts
  pub fewer : Fewer (locals_all ts') (locals_all ts)
  pub has : HaveLocalsInside ts → HaveLocalsInside ts'

pub same_term : (t : Tree) → Steady t t
same_term t = record { same_depth = refl; same_crossed = refl; same_continue = refl; fewer = λ i e. e; has = λ k. k }

pub same_terms : (ts : Trees) → SteadyAll ts ts
same_terms ts = record { same_depth = refl; same_crossed = refl; same_continue = refl; fewer = λ i e. e; has = λ k. k }

pub steady_then : (ts us vs : Trees) → SteadyAll ts us → SteadyAll us vs → SteadyAll ts vs
steady_then ts us vs a b = record {
  same_depth = a.same_depth ∙ b.same_depth;
  same_crossed = a.same_crossed ∙ b.same_crossed;
  same_continue = a.same_continue ∙ b.same_continue;
  fewer = λ i e. b.fewer i (a.fewer i e);
  has = λ k. a.has (b.has k);
}

either_same : (a a' b b' : Bool) → a ≡ a' → b ≡ b' → (a || b) ≡ (a' || b')
either_same a a' b b' e f = ap (λ c. c || b) e ∙ ap (λ c. a' || c) f

pub steady_more : (t' t : Tree) (ts' ts : Trees) → Steady t' t → SteadyAll ts' ts → SteadyAll (tree t' ts') (tree t ts)
steady_more t' t ts' ts a b =
    let d : depth t' ≡ depth t = a.same_depth in
    let e : depth_all ts' ≡ depth_all ts = b.same_depth in
    record {
      same_depth = omega (arith, d, e);
      same_crossed = either_same (is_crossed t') (is_crossed t) (are_crossed ts') (are_crossed ts) a.same_crossed b.same_crossed;
      same_continue = either_same (has_continue t') (has_continue t) (have_continue ts') (have_continue ts) a.same_continue b.same_continue;
      fewer = fewer_both (locals t') (locals t) (locals_all ts') (locals_all ts) a.fewer b.fewer;
      has = λ k. (a.has k.0, b.has k.1);
    }

abbrev extra : Bool → ℕ
extra b = if b then 1 else 0

pub enough : (ts' ts : Trees) → SteadyAll ts' ts → IsEnough ts → IsEnough ts'
enough ts' ts a h =
    let more : length (others (locals_all ts)) ≤ length (others (locals_all ts')) = others_more (locals_all ts') (locals_all ts) a.fewer in
    let d : depth_all ts' ≡ depth_all ts = a.same_depth in
    let c : extra (are_crossed ts') ≡ extra (are_crossed ts) = ap extra a.same_crossed in
    let room : depth_all ts + extra (are_crossed ts) ≤ length (others (locals_all ts)) = h in
    let made : depth_all ts' + extra (are_crossed ts') ≤ length (others (locals_all ts')) = omega (arith, more, d, c, room) in
    made

pub have_enough : (ts' ts : Trees) → SteadyAll ts' ts → HaveLocals ts → HaveLocals ts'
have_enough ts' ts a h = (enough ts' ts a h.0, a.has h.1)

-- ---- terms with bodies

pub steady_if : (test' test : Tree) (body' body : Trees) → Fewer (locals test') (locals test) → SteadyAll body' body → Steady (If test' body') (If test body)
steady_if test' test body' body f b = record { same_depth = b.same_depth; same_crossed = b.same_crossed; same_continue = b.same_continue; fewer = fewer_both (locals test') (locals test) (locals_all body') (locals_all body) f b.fewer; has = b.has }

pub steady_else_if : (test' test : Tree) (body' body : Trees) → Fewer (locals test') (locals test) → SteadyAll body' body → Steady (ElseIf test' body') (ElseIf test body)
steady_else_if test' test body' body f b = record { same_depth = b.same_depth; same_crossed = b.same_crossed; same_continue = b.same_continue; fewer = fewer_both (locals test') (locals test) (locals_all body') (locals_all body) f b.fewer; has = b.has }

pub steady_else : (body' body : Trees) → SteadyAll body' body → Steady (Else body') (Else body)
steady_else body' body b = record { same_depth = b.same_depth; same_crossed = b.same_crossed; same_continue = b.same_continue; fewer = b.fewer; has = b.has }

pub steady_while : (test' test : Tree) (body' body : Trees) → Fewer (locals test') (locals test) → SteadyAll body' body → Steady (While test' body') (While test body)
steady_while test' test body' body f b = record { same_depth = b.same_depth; same_crossed = b.same_crossed; same_continue = refl; fewer = fewer_both (locals test') (locals test) (locals_all body') (locals_all body) f b.fewer; has = b.has }

pub steady_for : (start' start test' test step' step : Tree) (body' body : Trees) → Fewer (locals start') (locals start) → Fewer (locals test') (locals test) → Fewer (locals step') (locals step) → SteadyAll body' body
    → Steady (For start' test' step' body') (For start test step body)
steady_for start' start test' test step' step body' body f g h b = record {
  same_depth = b.same_depth;
  same_crossed = b.same_crossed;
  same_continue = refl;
  fewer = fewer_both (locals start') (locals start) (locals test' ++ (locals step' ++ locals_all body')) (locals test ++ (locals step ++ locals_all body)) f
      (fewer_both (locals test') (locals test) (locals step' ++ locals_all body') (locals step ++ locals_all body) g (fewer_both (locals step') (locals step) (locals_all body') (locals_all body) h b.fewer));
  has = b.has;
}

pub steady_switch : (value' value : Tree) (cases' cases : Trees) → Fewer (locals value') (locals value) → SteadyAll cases' cases → Steady (Switch value' cases') (Switch value cases)
steady_switch value' value cases' cases f b = record {
  same_depth = ap suc b.same_depth;
  same_crossed = either_same (have_continue cases') (have_continue cases) (are_crossed cases') (are_crossed cases) b.same_continue b.same_crossed;
  same_continue = b.same_continue;
  fewer = fewer_both (locals value') (locals value) (locals_all cases') (locals_all cases) f b.fewer;
  has = b.has;
}

pub steady_case : (value' value : Tree) (body' body : Trees) → Fewer (locals value') (locals value) → SteadyAll body' body → Steady (Case value' body') (Case value body)
steady_case value' value body' body f b = record { same_depth = b.same_depth; same_crossed = b.same_crossed; same_continue = b.same_continue; fewer = fewer_both (locals value') (locals value) (locals_all body') (locals_all body) f b.fewer; has = b.has }

pub steady_default : (body' body : Trees) → SteadyAll body' body → Steady (Default body') (Default body)
steady_default body' body b = record { same_depth = b.same_depth; same_crossed = b.same_crossed; same_continue = b.same_continue; fewer = b.fewer; has = b.has }

pub steady_container : (kind : Container) (at : At) (name : Path) (body' body : Trees) → SteadyAll body' body → Steady (Container' kind at name body') (Container' kind at name body)
steady_container kind at name body' body b = record { same_depth = b.same_depth; same_crossed = b.same_crossed; same_continue = b.same_continue; fewer = b.fewer; has = b.has }

pub steady_scope : (here at : At) (name : Path) (body' body : Trees) → SteadyAll body' body → Steady (Scope here at name body') (Scope here at name body)
steady_scope here at name body' body b = record { same_depth = b.same_depth; same_crossed = b.same_crossed; same_continue = b.same_continue; fewer = b.fewer; has = b.has }

pub steady_method : (at : At) (name : Path) (flags : ℕ) (body' body : Trees) → SteadyAll body' body → Steady (Method at name flags body') (Method at name flags body)
steady_method at name flags body' body b = record { same_depth = refl; same_crossed = refl; same_continue = refl; fewer = b.fewer; has = λ k. have_enough body' body b k }
