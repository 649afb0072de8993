-- A chain of aliases that ends has fewer aliases than there are paths.
use Rattle.std.proofs.Common.{◌≡◌, ℕ, zero, suc, ◌≤◌, Bool, true, false, List, [], ◌∷◌, length, Option, Some, None, refl, sym, ap, ◌∙◌, arith, le_refl, inl, inr}
use Rattle.std.specs.Prelude.{if◌then◌else◌, ◌⊎◌}
use Rattle.acpi_values.specs.Paths.{NameSeg, AbsolutePath, is_same_path}
use Rattle.acpi_state.specs.Objects.{Object, lookup, without}
use Rattle.acpi_state.proofs.Lookups.{is_same_path-true}
use Rattle.asl_tree.specs.Names.{NameKind, Is, AliasTo, Known, kind_at, end_by, end_of}

abbrev Found : Type 0
Found = AbsolutePath × Object

-- what stays where a path is taken away
lookup_other : {A : Type 0} (ks : List (AbsolutePath × A)) (p q : AbsolutePath) → is_same_path p q ≡ false → lookup (without p ks) q ≡ lookup ks q
lookup_other [] p q other = refl
lookup_other (k ∷ ks) p q other = by_same (is_same_path k.0 p) refl (lookup_other ks p q other)
  where
    by_same : (c : Bool) → is_same_path k.0 p ≡ c → lookup (without p ks) q ≡ lookup ks q → lookup (if c then without p ks else k ∷ without p ks) q ≡ (if is_same_path k.0 q then Some k.1 else lookup ks q)
    by_same true h rest =
        rest ∙ sym (ap (λ c. if c then Some k.1 else lookup ks q) (ap (λ r. is_same_path r q) (is_same_path-true k.0 p h) ∙ other))
    by_same false h rest = ap (λ o. if is_same_path k.0 q then Some k.1 else o) rest

gone : {A : Type 0} (ks : List (AbsolutePath × A)) (p : AbsolutePath) → lookup (without p ks) p ≡ None
gone [] p = refl
gone (k ∷ ks) p = by_same (is_same_path k.0 p) refl (gone ks p)
  where
    by_same : (c : Bool) → is_same_path k.0 p ≡ c → lookup (without p ks) p ≡ None → lookup (if c then without p ks else k ∷ without p ks) p ≡ None
    by_same true h rest = rest
    by_same false h rest = ap (λ c. if c then Some k.1 else lookup (without p ks) p) h ∙ rest

shorter : {A : Type 0} (ks : List (AbsolutePath × A)) (p : AbsolutePath) → length (without p ks) ≤ length ks
shorter [] p = le_refl 0
shorter (k ∷ ks) p = by_same (is_same_path k.0 p) (shorter ks p)
  where
    by_same : (c : Bool) → length (without p ks) ≤ length ks → length (if c then without p ks else k ∷ without p ks) ≤ length (k ∷ ks)
    by_same true rest = omega (arith, rest)
    by_same false rest = omega (arith, rest)

less : {A : Type 0} (ks : List (AbsolutePath × A)) (p : AbsolutePath) (a : A) → lookup ks p ≡ Some a → suc (length (without p ks)) ≤ length ks
less [] p a e = absurd (grind arith)
less (k ∷ ks) p a e = by_same (is_same_path k.0 p) e (less ks p a)
  where
    by_same : (c : Bool) → (if c then Some k.1 else lookup ks p) ≡ Some a → (lookup ks p ≡ Some a → suc (length (without p ks)) ≤ length ks) → suc (length (if c then without p ks else k ∷ without p ks)) ≤ length (k ∷ ks)
    by_same true e go = omega (arith, shorter ks p)
    by_same false e go = omega (arith, go e)

kind_other : (ks : Known) (p q : AbsolutePath) → is_same_path p q ≡ false → kind_at (without p ks) q ≡ kind_at ks q
kind_other ks p [] other = refl
kind_other ks p (seg ∷ q) other = lookup_other ks p (seg ∷ q) other

-- more steps find the same
pub longer : (ks : Known) (n m : ℕ) (p : AbsolutePath) (x : Found) → n ≤ m → end_of ks n p ≡ Some x → end_of ks m p ≡ Some x
longer ks zero m p x le e = absurd (grind arith)
longer ks (suc n) zero p x le e = absurd (omega (arith, le))
longer ks (suc n) (suc m) p x le e = by_kind (kind_at ks p) e (λ q. longer ks n m q x (omega (arith, le)))
  where
    by_kind : (o : Option NameKind) → end_by o p (end_of ks n) ≡ Some x → ((q : AbsolutePath) → end_of ks n q ≡ Some x → end_of ks m q ≡ Some x) → end_by o p (end_of ks m) ≡ Some x
    by_kind None e go = absurd (grind arith)
    by_kind (Some (Is object)) e go = e
    by_kind (Some (AliasTo None)) e go = absurd (grind arith)
    by_kind (Some (AliasTo (Some q))) e go = go q e

-- with a path taken away, less ends
fewer : (ks : Known) (seg : NameSeg) (scope : AbsolutePath) (n : ℕ) (q : AbsolutePath) (x : Found) → end_of (without (seg ∷ scope) ks) n q ≡ Some x → end_of ks n q ≡ Some x
fewer ks seg scope zero q x e = absurd (grind arith)
fewer ks seg scope (suc n) q x e = by_same (is_same_path (seg ∷ scope) q) refl (λ r. fewer ks seg scope n r x)
  where
    by_kind : (o : Option NameKind) → end_by o q (end_of (without (seg ∷ scope) ks) n) ≡ Some x → ((r : AbsolutePath) → end_of (without (seg ∷ scope) ks) n r ≡ Some x → end_of ks n r ≡ Some x) → end_by o q (end_of ks n) ≡ Some x
    by_kind None e go = absurd (grind arith)
    by_kind (Some (Is object)) e go = e
    by_kind (Some (AliasTo None)) e go = absurd (grind arith)
    by_kind (Some (AliasTo (Some r))) e go = go r e

    by_same : (c : Bool) → is_same_path (seg ∷ scope) q ≡ c → ((r : AbsolutePath) → end_of (without (seg ∷ scope) ks) n r ≡ Some x → end_of ks n r ≡ Some x) → end_of ks (suc n) q ≡ Some x
    by_same true h go =
        absurd (let none : end_of (without (seg ∷ scope) ks) (suc n) q ≡ None = ap (λ r. end_of (without (seg ∷ scope) ks) (suc n) r) (sym (is_same_path-true (seg ∷ scope) q h)) ∙ ap (λ o. end_by o (seg ∷ scope) (end_of (without (seg ∷ scope) ks) n)) (gone ks (seg ∷ scope)) in let y = sym none ∙ e in grind arith)
    by_same false h go =
        by_kind (kind_at ks q) (ap (λ o. end_by o q (end_of (without (seg ∷ scope) ks) n)) (sym (kind_other ks (seg ∷ scope) q h)) ∙ e) go

-- a chain that comes by a path
pub record Through (ks : Known) (p : AbsolutePath) (n : ℕ) (x : Found) : Type 0 where
  steps : ℕ
  at_most : steps ≤ n
  ends : end_of ks steps p ≡ Some x

-- a chain either goes on without a path or comes by it
avoid : (ks : Known) (p : AbsolutePath) (n : ℕ) (q : AbsolutePath) (x : Found) → end_of ks n q ≡ Some x → (end_of (without p ks) n q ≡ Some x) ⊎ Through ks p n x
avoid ks p zero q x e = absurd (grind arith)
avoid ks p (suc n) q x e = by_same (is_same_path p q) refl (λ r. avoid ks p n r x)
  where
    by_kind : (o : Option NameKind) → kind_at ks q ≡ o → is_same_path p q ≡ false → end_by o q (end_of ks n) ≡ Some x → ((r : AbsolutePath) → end_of ks n r ≡ Some x → (end_of (without p ks) n r ≡ Some x) ⊎ Through ks p n x) → (end_of (without p ks) (suc n) q ≡ Some x) ⊎ Through ks p (suc n) x
    by_kind None k h e go = absurd (grind arith)
    by_kind (Some (Is object)) k h e go = inl (ap (λ o. end_by o q (end_of (without p ks) n)) (kind_other ks p q h ∙ k) ∙ e)
    by_kind (Some (AliasTo None)) k h e go = absurd (grind arith)
    by_kind (Some (AliasTo (Some r))) k h e go = on_rest (go r e)
      where
        on_rest : (end_of (without p ks) n r ≡ Some x) ⊎ Through ks p n x → (end_of (without p ks) (suc n) q ≡ Some x) ⊎ Through ks p (suc n) x
        on_rest (inl found) = inl (ap (λ o. end_by o q (end_of (without p ks) n)) (kind_other ks p q h ∙ k) ∙ found)
        on_rest (inr t) = inr (record { steps = t.steps; at_most = omega (arith, t.at_most); ends = t.ends })

    by_same : (c : Bool) → is_same_path p q ≡ c → ((r : AbsolutePath) → end_of ks n r ≡ Some x → (end_of (without p ks) n r ≡ Some x) ⊎ Through ks p n x) → (end_of (without p ks) (suc n) q ≡ Some x) ⊎ Through ks p (suc n) x
    by_same true h go = inr (record { steps = suc n; at_most = le_refl (suc n); ends = ap (λ r. end_of ks (suc n) r) (is_same_path-true p q h) ∙ e })
    by_same false h go = by_kind (kind_at ks q) refl h e go

within_bound : (b n : ℕ) → n ≤ b → (ks : Known) (p : AbsolutePath) (x : Found) → end_of ks n p ≡ Some x → end_of ks (suc (length ks)) p ≡ Some x
within_bound b zero le ks p x e = absurd (grind arith)
within_bound zero (suc n) le ks p x e = absurd (omega (arith, le))
within_bound (suc b) (suc n) le ks [] x e = e
within_bound (suc b) (suc n) le ks (seg ∷ scope) x e = by_kind (lookup ks (seg ∷ scope)) refl e (within_bound b)
  where
    by_kind : (o : Option NameKind) → lookup ks (seg ∷ scope) ≡ o → end_by o (seg ∷ scope) (end_of ks n) ≡ Some x → ((n : ℕ) → n ≤ b → (ks : Known) (p : AbsolutePath) (x : Found) → end_of ks n p ≡ Some x → end_of ks (suc (length ks)) p ≡ Some x) → end_by (lookup ks (seg ∷ scope)) (seg ∷ scope) (end_of ks (length ks)) ≡ Some x
    by_kind None k e go = absurd (grind arith)
    by_kind (Some (Is object)) k e go = ap (λ o. end_by o (seg ∷ scope) (end_of ks (length ks))) k ∙ e
    by_kind (Some (AliasTo None)) k e go = absurd (grind arith)
    by_kind (Some (AliasTo (Some q))) k e go = on_chain (avoid ks (seg ∷ scope) n q x e)
      where
        on_chain : (end_of (without (seg ∷ scope) ks) n q ≡ Some x) ⊎ Through ks (seg ∷ scope) n x → end_by (lookup ks (seg ∷ scope)) (seg ∷ scope) (end_of ks (length ks)) ≡ Some x
        on_chain (inl found) =
            let shorter_chain = go n (omega (arith, le)) (without (seg ∷ scope) ks) q x found in
            let in_all = fewer ks seg scope (suc (length (without (seg ∷ scope) ks))) q x shorter_chain in
            ap (λ o. end_by o (seg ∷ scope) (end_of ks (length ks))) k ∙ longer ks (suc (length (without (seg ∷ scope) ks))) (length ks) q x (less ks (seg ∷ scope) (AliasTo (Some q)) k) in_all
        on_chain (inr t) = go t.steps (omega (arith, le, t.at_most)) ks (seg ∷ scope) x t.ends

-- where a path ends at all, it ends after fewer aliases than there are paths
pub finite : (ks : Known) (n : ℕ) (p : AbsolutePath) (x : Found) → end_of ks n p ≡ Some x → end_of ks (suc (length ks)) p ≡ Some x
finite ks n p x e = within_bound n n (le_refl n) ks p x e
