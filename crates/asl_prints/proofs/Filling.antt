-- Formats with as many arguments as they ask for, by their nodes.
use Rattle.std.proofs.Common.{◌≡◌, ℕ, suc, Bool, true, false, List, [], ◌∷◌, length, drop, sym, ap, ◌∙◌, arith}
use Rattle.std.specs.Prelude.{nat_eq, ◌&&◌}
use Rattle.std.proofs.lemmas.Bool.Decides.{nat_tests}
use Rattle.asl_tree.specs.declared.term.Node.{Node}
use Rattle.asl_tree.specs.Formats.{cut}
use Rattle.asl_tree.specs.View.{trees_of}
use Rattle.asl_prints.specs.Forms.{are_filled, are_given, is_filled}
use Rattle.asl_prints.specs.Texts.{all_texts}
use Rattle.asl_prints.proofs.Leaving.{nat_eq_suc}

filled_long : (texts : List (List ℕ)) (args : List Node) → are_filled texts (trees_of args) ≡ nat_eq (length texts) (length args)
unfolding trees_of
filled_long [] [] = sym (let e : nat_eq 0 0 ≡ true = grind (arith, nat_tests) in e)
filled_long [] (node ∷ args) = sym (let e : nat_eq 0 (suc (length args)) ≡ false = grind (arith, nat_tests) in e)
filled_long (text ∷ texts) [] = sym (let e : nat_eq (suc (length texts)) 0 ≡ false = grind (arith, nat_tests) in e)
filled_long (text ∷ texts) (node ∷ args) = filled_long texts args ∙ sym (nat_eq_suc (length texts) (length args))

pub filled_is : (format : List ℕ) (args : List Node) (texts behind : List (List ℕ)) (given is_long : Bool) → texts ≡ all_texts format → behind ≡ drop 1 texts → given ≡ are_given (trees_of args) → is_long ≡ nat_eq (length behind) (length args) → (given && is_long) ≡ is_filled format (trees_of args)
filled_is format args texts behind given is_long t b g l =
    ap (λ c. c && is_long) g
    ∙ ap (λ c. are_given (trees_of args) && c) (l ∙ ap (λ ts. nat_eq (length ts) (length args)) (b ∙ ap (drop 1) t) ∙ sym (filled_long (cut format).1 args))
