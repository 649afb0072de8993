use Rattle.std.proofs.Common.{◌≡◌, ◌∷◌, [], get_or, refl, sym, ap, ◌∙◌}
use Rattle.std.specs.Prelude.{not}
use Rattle.name_spelling.specs.Forms.{met_in, leads_alone}
use Rattle.name_spelling.proofs.Forms.{alone_told}
use Rattle.name_spelling.proofs.Spelling.{tail_of, found_segment}
use Rattle.name_spelling.proofs.form.is_first_alone.Goals as goal

pub returns-in-Some : goal.returns-in-Some
returns-in-Some c =
    let paths = c.args.paths.now in
    let has = met_in paths c.args.named.now c.args.also.now in
    let path = get_or paths c.args.number [] in
    let scope = get_or paths c.args.scope [] in
    let outer = get_or paths c.in-Some.below.0 [] in
    let is : path ≡ c.args.segment ∷ outer = found_segment has c.args.segment scope path c.requires.found ∙ ap (λ p. c.args.segment ∷ tail_of p) c.in-Some.ensures.below.1 in
    ap not c.is_met_around.ensures ∙ alone_told has path scope path c.args.segment outer is (sym c.requires.found) refl

pub returns-in-None : goal.returns-in-None
returns-in-None c =
    let paths = c.args.paths.now in
    sym (ap (λ p. leads_alone (met_in paths c.args.named.now c.args.also.now) p (get_or paths c.args.scope [])) c.in-None.ensures.root)
