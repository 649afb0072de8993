-- All branches are read where none is unread.
use Rattle.std.proofs.Common.{◌≡◌, ℕ, ◌+◌, Bool, true, false, not, cond, ◌&&◌, List, [], ◌∷◌, ◌==◌, reverse, refl, ap, sym, ◌∙◌, arith}
use Rattle.std.proofs.lemmas.List.{reverse-append}
use Rattle.std.proofs.lemmas.List.Sums.{sum_by-cons}
use Rattle.std.proofs.lemmas.List.Folds.{list_all-append}
use Rattle.asl_directives.specs.declared.branches.Branch.{Branch}
use Rattle.asl_directives.specs.Branches.{is_read, unread_count}

one_more : (b : Bool) (n : ℕ) (r : Bool) → (n == 0) ≡ r → (cond (not b) 1 0 + n == 0) ≡ (r && (b && true))
one_more true n true h = grind (arith, h)
one_more true n false h = grind (arith, h)
one_more false n true h = grind arith
one_more false n false h = grind arith

pub none_unread : (branches : List Branch) → (unread_count branches == 0) ≡ is_read (reverse branches)
none_unread [] = refl
none_unread (b ∷ bs) =
    ap (λ n. n == 0) (sum_by-cons (λ (x : Branch). cond (not x.now) 1 0) b bs) ∙ one_more b.now (unread_count bs) (is_read (reverse bs)) (none_unread bs)
    ∙ sym (ap is_read (reverse-append (b ∷ []) bs) ∙ list_all-append (λ (x : Branch). x.now) (reverse bs) (b ∷ []))
