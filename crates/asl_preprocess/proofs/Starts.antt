-- The definitions of the words, one after another.
use Rattle.std.proofs.Common.{◌≡◌, ℕ, ◌+◌, ◌<◌, List, [], ◌∷◌, ◌++◌, length, take, get_or, map, reverse, ap, sym, subst, ◌∙◌}
use Rattle.std.specs.Prelude.{codes}
use Rattle.std.proofs.lemmas.List.{map-append, reverse-append, take_more}
use Rattle.asl_macros.specs.History.{History, Defines}
use Rattle.asl_preprocess.specs.declared.define.Define.{Define}
use Rattle.asl_preprocess.specs.declared.work.Work.{Work}
use Rattle.asl_preprocess.specs.State.{with_history}
use Rattle.asl_preprocess.specs.Preprocess.{definition_of, first_history, first_state}
use Rattle.asl_preprocess.specs.Told.{Shows}

abbrev built_in : History
built_in = Defines (codes "__IASL__") (codes "1") ∷ []

history_more : (defines : List Define) (d : Define) → definition_of d ∷ first_history defines ≡ first_history (defines ++ d ∷ [])
history_more defines d =
    sym (ap (λ (h : History). h ++ built_in) (ap reverse (map-append definition_of defines (d ∷ [])) ∙ reverse-append (map definition_of defines) (definition_of d ∷ [])))

pub shows_more : (work : Work) (name : List ℕ) (items : List Define) (i : ℕ) (d : Define) (n t : List ℕ) → i < length items → d ≡ get_or items i d → n ≡ d.name → t ≡ d.text
    → Shows work (with_history (first_state name (take i items)) (Defines n t ∷ first_history (take i items))) → Shows work (first_state name (take (i + 1) items))
shows_more work name items i d n t lt is en et shows =
    let P : History → Type 0 = λ h. Shows work (record { history = h; lines = []; notes = []; files = name ∷ [] }) in
    let e : Defines n t ∷ first_history (take i items) ≡ first_history (take (i + 1) items) =
    ap (λ x. Defines x t ∷ first_history (take i items)) en ∙ ap (λ x. Defines d.name x ∷ first_history (take i items)) et
    ∙ history_more (take i items) d ∙ ap (λ x. first_history (take i items ++ x ∷ [])) is ∙ ap first_history (sym (take_more items i d lt)) in
    subst P e shows
