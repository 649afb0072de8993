-- What is declared without some names.
use Rattle.std.proofs.Common.{◌≡◌, Bool, true, false, List, Some, None, refl, sym, ap, ◌∙◌, arith}
use Rattle.std.specs.Prelude.{◌||◌, if◌then◌else◌, is_some}
use Rattle.acpi_values.specs.Paths.{AbsolutePath, is_same_path}
use Rattle.acpi_state.specs.Objects.{lookup}
use Rattle.acpi_state.proofs.Lookups.{is_same_path-true}
use Rattle.asl_tree.specs.Names.{declared_path}
use Rattle.asl_meaning.specs.Declarations.{Declared, ExternalType, Declarations, in_root, is_named, with_declared, with_external, with_first}
use Rattle.acpi_names.specs.Mentions.{Mention, after, after_all}
use Rattle.unused_names.specs.Unused.{Twin, TwinUse, TwinRegion, TwinSought, TwinCalled, TwinDeclares, TwinOutside, TwinOpens, Stays, Drops, NoMentions, Dropped, Stayed}

pub record Less (gone : AbsolutePath → Bool) (d d' : Declarations) : Type 0 where
  pub declared : (p : AbsolutePath) → lookup d'.declared p ≡ (if gone p then None else lookup d.declared p)
  pub external : d'.external ≡ d.external

other_path : (gone : AbsolutePath → Bool) (path p : AbsolutePath) (b : Bool) → gone path ≡ true → gone p ≡ false → is_same_path path p ≡ b → b ≡ false
other_path gone path p false h k e = refl
other_path gone path p true h k e = absurd (let x = sym h ∙ ap gone (is_same_path-true path p e) ∙ k in grind arith)

another_path : (gone : AbsolutePath → Bool) (path p : AbsolutePath) (b : Bool) → gone path ≡ false → gone p ≡ true → is_same_path path p ≡ b → b ≡ false
another_path gone path p false h k e = refl
another_path gone path p true h k e = absurd (let x = sym k ∙ ap gone (sym (is_same_path-true path p e)) ∙ h in grind arith)

pub less_dropped : (gone : AbsolutePath → Bool) (path : AbsolutePath) (as' : Declared) (d d' : Declarations) → gone path ≡ true → Less gone d d' → Less gone (with_declared path as' d) d'
less_dropped gone path as' d d' h less = record {
  declared = λ p. less.declared p ∙ by_gone p (gone p) refl;
  external = less.external;
}
  where
    by_gone : (p : AbsolutePath) (c : Bool) → gone p ≡ c → (if c then None else lookup d.declared p) ≡ (if c then None else (if is_same_path path p then Some as' else lookup d.declared p))
    by_gone p true e = refl
    by_gone p false e = sym (ap (λ b. if b then Some as' else lookup d.declared p) (other_path gone path p (is_same_path path p) h e refl))

pub less_stayed : (gone : AbsolutePath → Bool) (path : AbsolutePath) (as' : Declared) (d d' : Declarations) → gone path ≡ false → Less gone d d' → Less gone (with_declared path as' d) (with_declared path as' d')
less_stayed gone path as' d d' h less = record {
  declared = λ p. by_gone p (gone p) refl;
  external = less.external;
}
  where
    by_gone : (p : AbsolutePath) (c : Bool) → gone p ≡ c → (if is_same_path path p then Some as' else lookup d'.declared p) ≡ (if c then None else (if is_same_path path p then Some as' else lookup d.declared p))
    by_gone p true e =
        ap (λ b. if b then Some as' else lookup d'.declared p) (another_path gone path p (is_same_path path p) h e refl) ∙ less.declared p ∙ ap (λ b. if b then None else lookup d.declared p) e
    by_gone p false e = ap (λ o. if is_same_path path p then Some as' else o) (less.declared p ∙ ap (λ b. if b then None else lookup d.declared p) e)

less_outside : (gone : AbsolutePath → Bool) (b : Bool) (path : AbsolutePath) (type : ExternalType) (d d' : Declarations) → Less gone d d' → Less gone (with_external b path type d) (with_external b path type d')
less_outside gone true path type d d' less = less
less_outside gone false path type d d' less = record { declared = less.declared; external = ap (with_first path type) less.external }

pub less_twin : (gone : AbsolutePath → Bool) {m other : Mention} → Twin m other → Stays gone m → (d d' : Declarations) → Less gone d d' → Less gone (after m d) (after other d')
less_twin gone (TwinUse asked at to name scope) stays d d' less = less
less_twin gone (TwinRegion field other at to name scope) stays d d' less = less
less_twin gone (TwinSought at to name scope) stays d d' less = less
less_twin gone (TwinCalled asked at to name args scope) stays d d' less = less
less_twin gone (TwinDeclares at to name as' scope) stays d d' less = less_stayed gone (declared_path name scope) as' d d' stays less
less_twin gone (TwinOutside here there at to name type scope) stays d d' less = less_outside gone (in_root (declared_path name scope)) (declared_path name scope) type d d' less
less_twin gone (TwinOpens here there at to name scope inner) stays d d' less = less

pub less_after : (gone : AbsolutePath → Bool) {ms others : List Mention} → Drops gone ms others → (d d' : Declarations) → Less gone d d' → Less gone (after_all ms d) (after_all others d')
less_after gone NoMentions d d' less = less
less_after gone (Dropped at name as' scope h rest) d d' less = less_after gone rest (with_declared (declared_path name scope) as' d) d' (less_dropped gone (declared_path name scope) as' d d' h less)
less_after gone (Stayed twin stays rest) d d' less = less_after gone rest _ _ (less_twin gone twin stays d d' less)

-- the names that are left
pub named_less : (gone : AbsolutePath → Bool) (d d' : Declarations) → Less gone d d' → (p : AbsolutePath) → (gone p ≡ true → (is_some (lookup d.external p) ≡ false) × (in_root p ≡ false)) → is_named d' p ≡ (if gone p then false else is_named d p)
named_less gone d d' less p apart =
    ap (λ o. is_some o || (is_some (lookup d'.external p) || in_root p)) (less.declared p)
    ∙ ap (λ es. is_some (if gone p then None else lookup d.declared p) || (is_some (lookup es p) || in_root p)) less.external ∙ by_gone (gone p) apart
  where
    by_gone : (c : Bool) → (c ≡ true → (is_some (lookup d.external p) ≡ false) × (in_root p ≡ false)) → (is_some (if c then None else lookup d.declared p) || (is_some (lookup d.external p) || in_root p)) ≡ (if c then false else is_named d p)
    by_gone true h = ap (λ b. b || in_root p) (h refl).0 ∙ (h refl).1
    by_gone false h = refl
