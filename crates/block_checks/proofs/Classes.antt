-- The errors of a block, one class at a time.
use Rattle.std.proofs.Common.{◌≡◌, Bool, true, false, List, [], ◌∷◌, length, refl, sym, ap, ◌∙◌}
use Rattle.std.specs.Prelude.{◌++◌, if◌then◌else◌}
use Rattle.iasl_messages.specs.declared.message.Message.{Message}
use Rattle.asl_tree.specs.Tree.{Trees}
use Rattle.acpi_values.specs.Paths.{AbsolutePath}
use Rattle.block_checks.specs.declared.names.FoundNames.{FoundNames}
use Rattle.block_checks.specs.Told.{is_of_kinds, with_others}
use Rattle.block_checks.specs.Findings.{IsNamed}
use Rattle.block_checks.specs.declared.names.Findings.TheVariants.{Right}

-- nothing is told of names, nor else
pub none_behind : (errors others : List Message) → errors ≡ [] → others ≡ [] → with_others errors others ≡ []
none_behind errors others e s = ap (λ es. with_others es others) e ∙ s

-- what is told of names is something, with others behind it too
pub some_behind : (errors others : List Message) → (errors ≡ [] → ⊥) → with_others errors others ≡ [] → ⊥
some_behind [] others h e = h refl
some_behind (m ∷ ms) others h e = by (is_of_kinds m.number) e
  where
    by : (b : Bool) → (if b then (m ∷ ms) ++ others else m ∷ ms) ≡ [] → ⊥
    by true e = absurd cc
    by false e = absurd cc

-- nothing is told where there is neither
pub both_none : (errors others : List Message) → with_others errors others ≡ [] → (errors ≡ []) × (others ≡ [])
both_none [] others e = (refl, e)
both_none (m ∷ ms) others e = absurd (some_behind (m ∷ ms) others (λ f. absurd cc) e)

-- names in which nothing is wrong, and no other errors
pub named_right : (names : FoundNames) (told others : List Message) (also : AbsolutePath → Bool) (terms : Trees) → IsNamed (Right names) told also terms → others ≡ [] → IsNamed (Right names) (with_others told others) also terms
named_right names told others also terms h none = (h.0, none_behind told others h.1 none)

-- other errors alone
pub named_others : (told others : List Message) → told ≡ [] → (length others ≡ 0 → ⊥) → (others ≡ with_others told others) × (others ≡ [] → ⊥)
named_others told others none some = (sym (ap (λ ts. with_others ts others) none), λ e. some (ap length e))

-- errors of names, with the others behind them
pub named_wrong : (errors told others all : List Message) → (errors ≡ told) × (errors ≡ [] → ⊥) → all ≡ with_others errors others → (all ≡ with_others told others) × (all ≡ [] → ⊥)
named_wrong errors told others all h is =
    (is ∙ ap (λ es. with_others es others) h.0, λ e. some_behind errors others h.1 (sym is ∙ e))
