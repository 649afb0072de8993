-- Paths that are followed once.
use Rattle.std.proofs.Common.{◌≡◌, ℕ, zero, suc, ◌+◌, ◌<◌, ◌≤◌, Bool, true, false, List, [], ◌∷◌, ◌++◌, length, get_or, set, Option, Some, None, refl, sym, ap, ◌∙◌, subst, arith, inl, inr}
use Rattle.std.specs.Prelude.{nat_eq, nat_lt, replicate, ◌⊎◌, All, Contains}
use Rattle.std.proofs.lemmas.Bool.{eqb-true}
use Rattle.std.proofs.lemmas.Bool.Decides.{nat_tests}
use Rattle.std.proofs.lemmas.List.{get_or_past, get_or-set_same, get_or-set_other, get_or-replicate, length-set, length-replicate}
use Rattle.std.proofs.lemmas.List.Elements.{All-nil, All-same, All-push, All-weaker, All-contains, Contains-push, Contains-push_cases, Contains-append_left}
use Rattle.acpi_values.specs.Paths.{AbsolutePath}
use Rattle.acpi_state.specs.Objects.{Object}
use Rattle.asl_tree.specs.Names.{Known, AliasTo, kind_at, end_by, end_of}
use Rattle.acpi_names.specs.Errors.{final}
use Rattle.name_kinds.specs.Ends.{AreEnds, AreMarked, IsMarked, ended}
use Rattle.name_kinds.specs.declared.kind.End.{End}
use Rattle.name_kinds.specs.declared.ends.WalkState.{WalkState}
use Rattle.name_kinds.specs.declared.ends.Walks.{Walks}
use Rattle.name_kinds.proofs.Chains.{longer, finite}

-- a path that leads to another one by an alias at least: it ends where that one ends, and later
pub record Behind (known : Known) (at path : AbsolutePath) : Type 0 where
  pub same : final known path ≡ final known at
  pub later : (n : ℕ) → end_of known n at ≡ None → end_of known (suc n) path ≡ None

-- an alias ends where its source does
alias_same : (known : Known) (p q : AbsolutePath) → kind_at known p ≡ Some (AliasTo (Some q)) → final known p ≡ final known q
alias_same known p q e =
    ap (λ o. end_by o p (end_of known (length known))) e ∙ by_end (end_of known (length known) q) (end_of known (suc (length known)) q) refl refl
  where
    by_end : (o r : Option (AbsolutePath × Object)) → end_of known (length known) q ≡ o → end_of known (suc (length known)) q ≡ r → o ≡ r
    by_end (Some x) r h k = sym (longer known (length known) (suc (length known)) q x (omega arith) h) ∙ k
    by_end None None h k = refl
    by_end None (Some x) h k =
        absurd (let there = finite known (suc (suc (length known))) p x (ap (λ o. end_by o p (end_of known (suc (length known)))) e ∙ k) in let y = sym h ∙ (sym (ap (λ o. end_by o p (end_of known (length known))) e) ∙ there) in grind arith)

-- what has no end after some aliases has none after fewer
fewer_none : (known : Known) (n : ℕ) (p : AbsolutePath) → end_of known (suc n) p ≡ None → end_of known n p ≡ None
fewer_none known n p e = by_end (end_of known n p) refl
  where
    by_end : (o : Option (AbsolutePath × Object)) → end_of known n p ≡ o → o ≡ None
    by_end None h = refl
    by_end (Some x) h = absurd (let y = sym (longer known n (suc n) p x (omega arith) h) ∙ e in grind arith)

alias_later : (known : Known) (p q : AbsolutePath) → kind_at known p ≡ Some (AliasTo (Some q)) → (n : ℕ) → end_of known n q ≡ None → end_of known (suc n) p ≡ None
alias_later known p q e n h = ap (λ o. end_by o p (end_of known n)) e ∙ h

behind_first : (known : Known) (p q : AbsolutePath) → kind_at known p ≡ Some (AliasTo (Some q)) → Behind known q p
behind_first known p q e = record { same = alias_same known p q e; later = alias_later known p q e }

behind_next : (known : Known) (p q r : AbsolutePath) → kind_at known p ≡ Some (AliasTo (Some q)) → Behind known p r → Behind known q r
behind_next known p q r e b = record {
  same = b.same ∙ alias_same known p q e;
  later = λ n h. fewer_none known (suc n) r (b.later (suc n) (alias_later known p q e n h));
}

-- what leads to itself ends nowhere
circle : (known : Known) (p : AbsolutePath) → Behind known p p → final known p ≡ None
circle known p b = by_count (suc (length known))
  where
    by_count : (n : ℕ) → end_of known n p ≡ None
    by_count zero = refl
    by_count (suc n) = b.later n (by_count n)

-- one mark is written
set_cases : (marks : List WalkState) (at n : ℕ) (m x : WalkState) → at < length marks → get_or (set marks at m) n WalkState.New ≡ x → ((at ≡ n) × (m ≡ x)) ⊎ ((at ≡ n → ⊥) × (get_or marks n WalkState.New ≡ x))
set_cases marks at n m x lt e = by_place (nat_eq at n) refl
  where
    by_place : (c : Bool) → nat_eq at n ≡ c → ((at ≡ n) × (m ≡ x)) ⊎ ((at ≡ n → ⊥) × (get_or marks n WalkState.New ≡ x))
    by_place true c =
        let same : at ≡ n = eqb-true at n c in
        inl (same, sym (ap (λ k. get_or (set marks at m) k WalkState.New) (sym same) ∙ get_or-set_same marks at m WalkState.New lt) ∙ e)
    by_place false c =
        let other : at ≡ n → ⊥ = grind (arith, nat_tests, c) in
        inr (other, sym (get_or-set_other marks at n m WalkState.New (λ e. other (sym e))) ∙ e)

pub marked_kept : (marks : List WalkState) (at n : ℕ) (m : WalkState) → at < length marks → (m ≡ WalkState.New → ⊥) → IsMarked marks n → IsMarked (set marks at m) n
marked_kept marks at n m lt old marked e = by_case (set_cases marks at n m WalkState.New lt e)
  where
    by_case : ((at ≡ n) × (m ≡ WalkState.New)) ⊎ ((at ≡ n → ⊥) × (get_or marks n WalkState.New ≡ WalkState.New)) → ⊥
    by_case (inl here) = old here.1
    by_case (inr there) = marked there.1

pub marked_here : (marks : List WalkState) (at : ℕ) (m : WalkState) → at < length marks → (m ≡ WalkState.New → ⊥) → IsMarked (set marks at m) at
marked_here marks at m lt old e = by_case (set_cases marks at at m WalkState.New lt e)
  where
    by_case : ((at ≡ at) × (m ≡ WalkState.New)) ⊎ ((at ≡ at → ⊥) × (get_or marks at WalkState.New ≡ WalkState.New)) → ⊥
    by_case (inl here) = old here.1
    by_case (inr there) = there.0 refl

pub walk_is_marked : WalkState.OnWalk ≡ WalkState.New → ⊥
walk_is_marked e = cc

pub end_is_marked : WalkState.Ended ≡ WalkState.New → ⊥
end_is_marked e = cc

-- the first path of a walk is marked with the others
pub started : (marks : List WalkState) (at start : ℕ) → at < length marks → (get_or marks start WalkState.New ≡ WalkState.New → at ≡ start) → IsMarked (set marks at WalkState.OnWalk) start
started marks at start lt same e = by_case (set_cases marks at start WalkState.OnWalk WalkState.New lt e)
  where
    by_case : ((at ≡ start) × (WalkState.OnWalk ≡ WalkState.New)) ⊎ ((at ≡ start → ⊥) × (get_or marks start WalkState.New ≡ WalkState.New)) → ⊥
    by_case (inl here) = walk_is_marked here.1
    by_case (inr there) = there.0 (same there.1)

-- how many paths are not followed yet
abbrev pub left : List WalkState → ℕ
left [] = 0
left (WalkState.New ∷ marks) = suc (left marks)
left (WalkState.OnWalk ∷ marks) = left marks
left (WalkState.Ended ∷ marks) = left marks

pub fewer_left : (marks : List WalkState) (at : ℕ) → at < length marks → get_or marks at WalkState.New ≡ WalkState.New → left (set marks at WalkState.OnWalk) < left marks
fewer_left [] at lt e = absurd (omega (arith, lt))
fewer_left (WalkState.New ∷ marks) zero lt e = omega arith
fewer_left (WalkState.OnWalk ∷ marks) zero lt e = absurd (cc)
fewer_left (WalkState.Ended ∷ marks) zero lt e = absurd (cc)
fewer_left (WalkState.New ∷ marks) (suc at) lt e = omega (arith, fewer_left marks at (omega (arith, lt)) e)
fewer_left (WalkState.OnWalk ∷ marks) (suc at) lt e = fewer_left marks at (omega (arith, lt)) e
fewer_left (WalkState.Ended ∷ marks) (suc at) lt e = fewer_left marks at (omega (arith, lt)) e

-- a path comes onto the walk
pub entered : (paths : List AbsolutePath) (known : Known) (old new : Walks) (at : ℕ) → at < length paths → new.marks.items ≡ set old.marks.items at WalkState.OnWalk → new.ends.items ≡ old.ends.items → new.chain.items ≡ old.chain.items ++ at ∷ [] → AreMarked paths known old → AreMarked paths known new
entered paths known old new at lt marks ends chain walked = record {
  marks = ap length marks ∙ length-set old.marks.items at WalkState.OnWalk ∙ walked.marks;
  ends = ap length ends ∙ walked.ends;
  reached = λ n e. is_ended n (set_cases old.marks.items at n WalkState.OnWalk WalkState.Ended (omega (arith, lt, walked.marks)) (sym (ap (λ ms. get_or ms n WalkState.New) marks) ∙ e));
  walking = λ n e. subst (λ c. Contains c n) (sym chain) (is_walking n (set_cases old.marks.items at n WalkState.OnWalk WalkState.OnWalk (omega (arith, lt, walked.marks)) (sym (ap (λ ms. get_or ms n WalkState.New) marks) ∙ e)));
  inside = All-same (λ n. n < length paths) new.chain.items (old.chain.items ++ at ∷ []) chain (All-push (λ n. n < length paths) old.chain.items at walked.inside lt);
}
  where
    is_ended : (n : ℕ) → ((at ≡ n) × (WalkState.OnWalk ≡ WalkState.Ended)) ⊎ ((at ≡ n → ⊥) × (get_or old.marks.items n WalkState.New ≡ WalkState.Ended)) → ended paths (get_or new.ends.items n None) ≡ final known (get_or paths n [])
    is_ended n (inl here) = absurd (let e = here.1 in cc)
    is_ended n (inr there) = ap (λ es. ended paths (get_or es n None)) ends ∙ walked.reached n there.1

    is_walking : (n : ℕ) → ((at ≡ n) × (WalkState.OnWalk ≡ WalkState.OnWalk)) ⊎ ((at ≡ n → ⊥) × (get_or old.marks.items n WalkState.New ≡ WalkState.OnWalk)) → Contains (old.chain.items ++ at ∷ []) n
    is_walking n (inl here) = subst (Contains (old.chain.items ++ at ∷ [])) here.0 (Contains-push old.chain.items at)
    is_walking n (inr there) = Contains-append_left old.chain.items (at ∷ []) n (walked.walking n there.1)

-- a path comes off the walk, to its end
pub settled : (paths : List AbsolutePath) (known : Known) (old new : Walks) (at : ℕ) (end : Option End) → at < length paths → new.marks.items ≡ set old.marks.items at WalkState.Ended → new.ends.items ≡ set old.ends.items at end → old.chain.items ≡ new.chain.items ++ at ∷ [] → final known (get_or paths at []) ≡ ended paths end
    → All (λ n. n < length paths) new.chain.items → AreMarked paths known old → AreMarked paths known new
settled paths known old new at end lt marks ends chain h inside walked = record {
  marks = ap length marks ∙ length-set old.marks.items at WalkState.Ended ∙ walked.marks;
  ends = ap length ends ∙ length-set old.ends.items at end ∙ walked.ends;
  reached = λ n e. is_ended n (set_cases old.marks.items at n WalkState.Ended WalkState.Ended (omega (arith, lt, walked.marks)) (sym (ap (λ ms. get_or ms n WalkState.New) marks) ∙ e));
  walking = λ n e. is_walking n (set_cases old.marks.items at n WalkState.Ended WalkState.OnWalk (omega (arith, lt, walked.marks)) (sym (ap (λ ms. get_or ms n WalkState.New) marks) ∙ e));
  inside = inside;
}
  where
    is_ended : (n : ℕ) → ((at ≡ n) × (WalkState.Ended ≡ WalkState.Ended)) ⊎ ((at ≡ n → ⊥) × (get_or old.marks.items n WalkState.New ≡ WalkState.Ended)) → ended paths (get_or new.ends.items n None) ≡ final known (get_or paths n [])
    is_ended n (inl here) =
        subst (λ k. ended paths (get_or new.ends.items k None) ≡ final known (get_or paths k [])) here.0
        (ap (ended paths) (ap (λ es. get_or es at None) ends ∙ get_or-set_same old.ends.items at end None (omega (arith, lt, walked.ends))) ∙ sym h)
    is_ended n (inr there) = ap (ended paths) (ap (λ es. get_or es n None) ends ∙ get_or-set_other old.ends.items at n end None (λ e. there.0 (sym e))) ∙ walked.reached n there.1

    is_walking : (n : ℕ) → ((at ≡ n) × (WalkState.Ended ≡ WalkState.OnWalk)) ⊎ ((at ≡ n → ⊥) × (get_or old.marks.items n WalkState.New ≡ WalkState.OnWalk)) → Contains new.chain.items n
    is_walking n (inl here) = absurd (let e = here.1 in cc)
    is_walking n (inr there) = not_here (Contains-push_cases new.chain.items at n (subst (λ c. Contains c n) chain (walked.walking n there.1)))
      where
        not_here : Contains new.chain.items n ⊎ (at ≡ n) → Contains new.chain.items n
        not_here (inl found) = found
        not_here (inr same) = absurd (there.0 same)

-- nothing is on the walk any more
pub emptied : (paths : List AbsolutePath) (known : Known) (old new : Walks) → new.marks.items ≡ old.marks.items → new.ends.items ≡ old.ends.items → length old.chain.items ≡ 0 → length new.chain.items ≡ 0 → AreMarked paths known old → AreMarked paths known new
emptied paths known old new marks ends none left walked = record {
  marks = ap length marks ∙ walked.marks;
  ends = ap length ends ∙ walked.ends;
  reached = λ n e. ap (λ es. ended paths (get_or es n None)) ends ∙ walked.reached n (sym (ap (λ ms. get_or ms n WalkState.New) marks) ∙ e);
  walking = λ n e. absurd (let there = walked.walking n (sym (ap (λ ms. get_or ms n WalkState.New) marks) ∙ e) in omega (arith, there.1, none));
  inside = λ k d lt. absurd (omega (arith, lt, left));
}

-- the walk goes on by one alias
pub goes_on : (paths : List AbsolutePath) (known : Known) (chain : List ℕ) (at source : ℕ) → kind_at known (get_or paths at []) ≡ Some (AliasTo (Some (get_or paths source []))) → All (λ n. Behind known (get_or paths at []) (get_or paths n [])) chain → All (λ n. Behind known (get_or paths source []) (get_or paths n [])) (chain ++ at ∷ [])
goes_on paths known chain at source e behind =
    All-push (λ n. Behind known (get_or paths source []) (get_or paths n [])) chain at
    (All-weaker (λ n. Behind known (get_or paths at []) (get_or paths n [])) (λ n. Behind known (get_or paths source []) (get_or paths n [])) (λ n b. behind_next known (get_or paths at []) (get_or paths source []) (get_or paths n []) e b) chain behind)
    (behind_first known (get_or paths at []) (get_or paths source []) e)

-- the walk stops at a path, and all on it end there
pub stops : (paths : List AbsolutePath) (known : Known) (chain : List ℕ) (at : ℕ) (end : Option End) → ended paths end ≡ final known (get_or paths at []) → All (λ n. Behind known (get_or paths at []) (get_or paths n [])) chain → All (λ n. final known (get_or paths n []) ≡ ended paths end) chain
stops paths known chain at end e behind =
    All-weaker (λ n. Behind known (get_or paths at []) (get_or paths n [])) (λ n. final known (get_or paths n []) ≡ ended paths end) (λ n b. b.same ∙ sym e) chain behind

pub stops_behind : (paths : List AbsolutePath) (known : Known) (chain : List ℕ) (at : ℕ) (end : Option End) → ended paths end ≡ final known (get_or paths at []) → All (λ n. Behind known (get_or paths at []) (get_or paths n [])) chain → All (λ n. final known (get_or paths n []) ≡ ended paths end) (chain ++ at ∷ [])
stops_behind paths known chain at end e behind =
    All-push (λ n. final known (get_or paths n []) ≡ ended paths end) chain at (stops paths known chain at end e behind) (sym e)

-- the walk comes to itself
pub returns_here : (paths : List AbsolutePath) (known : Known) (chain : List ℕ) (at : ℕ) → Contains chain at → All (λ n. Behind known (get_or paths at []) (get_or paths n [])) chain → All (λ n. final known (get_or paths n []) ≡ None) chain
returns_here paths known chain at here behind =
    let none = circle known (get_or paths at []) (All-contains (λ n. Behind known (get_or paths at []) (get_or paths n [])) chain at behind here) in
    stops paths known chain at None (sym none) behind

-- no path is followed yet
fresh_mark : (count n : ℕ) → get_or (replicate count WalkState.New) n WalkState.New ≡ WalkState.New
fresh_mark count n = by_within (nat_lt n count) refl
  where
    by_within : (c : Bool) → nat_lt n count ≡ c → get_or (replicate count WalkState.New) n WalkState.New ≡ WalkState.New
    by_within true c = get_or-replicate count n WalkState.New WalkState.New (let lt : n < count = grind (arith, nat_tests, c) in lt)
    by_within false c = get_or_past (replicate count WalkState.New) n WalkState.New (let le : count ≤ n = grind (arith, nat_tests, c) in omega (arith, le, length-replicate count WalkState.New))

pub unwalked_marked : (paths : List AbsolutePath) (known : Known) (walks : Walks) → walks.marks.items ≡ replicate (length paths) WalkState.New → length walks.ends.items ≡ length paths → walks.chain.items ≡ [] → AreMarked paths known walks
unwalked_marked paths known walks marks ends chain = record {
  marks = ap length marks ∙ length-replicate (length paths) WalkState.New;
  ends = ends;
  reached = λ n e. absurd (let y = sym (fresh n) ∙ e in cc);
  walking = λ n e. absurd (let y = sym (fresh n) ∙ e in cc);
  inside = All-same (λ n. n < length paths) walks.chain.items [] chain (All-nil (λ n. n < length paths));
}
  where
    fresh : (n : ℕ) → get_or walks.marks.items n WalkState.New ≡ WalkState.New
    fresh n = ap (λ ms. get_or ms n WalkState.New) marks ∙ fresh_mark (length paths) n

-- one path more is followed
pub one_more : (old new : List WalkState) (i : ℕ) → ((n : ℕ) → n < i → IsMarked old n) → ((n : ℕ) → IsMarked old n → IsMarked new n) → IsMarked new i → (n : ℕ) → n < i + 1 → IsMarked new n
one_more old new i before kept here n lt = by_place (nat_lt n i) refl
  where
    by_place : (c : Bool) → nat_lt n i ≡ c → IsMarked new n
    by_place true c = kept n (before n (let l : n < i = grind (arith, nat_tests, c) in l))
    by_place false c = subst (IsMarked new) (let e : i ≡ n = grind (arith, nat_tests, c, lt) in e) here

-- all are followed
pub all_ended : (paths : List AbsolutePath) (known : Known) (walks : Walks) (i : ℕ) → AreMarked paths known walks → walks.chain.items ≡ [] → length paths ≤ i → ((n : ℕ) → n < i → IsMarked walks.marks.items n) → AreEnds paths walks.ends.items known
all_ended paths known walks i walked idle le done = record { size = walked.ends; each = λ n lt. by_mark n lt (get_or walks.marks.items n WalkState.New) refl }
  where
    none_there : (n : ℕ) → Contains walks.chain.items n → ⊥
    none_there n there = let at = subst (λ c. Contains c n) idle there in absurd (omega (arith, at.1))

    by_mark : (n : ℕ) → n < length paths → (m : WalkState) → get_or walks.marks.items n WalkState.New ≡ m → ended paths (get_or walks.ends.items n None) ≡ final known (get_or paths n [])
    by_mark n lt WalkState.New e = absurd (done n (omega (arith, lt, le)) e)
    by_mark n lt WalkState.OnWalk e = absurd (none_there n (walked.walking n e))
    by_mark n lt WalkState.Ended e = walked.reached n e
