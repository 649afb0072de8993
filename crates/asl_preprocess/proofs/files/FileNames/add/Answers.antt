use Rattle.std.proofs.Common.{ℕ, List, ◌∙◌, ap, map}
use Rattle.asl_preprocess.specs.State.{number_of, with_file}
use Rattle.asl_preprocess.proofs.Names.{number_named, files_named}
use Rattle.asl_preprocess.proofs.files.FileNames.add.Goals as goal

pub returns-clause-number : goal.returns-clause-number
returns-clause-number c =
    c.in_ok-number.ensures.number ∙ c.in_ok-place.ensures.index ∙ number_named (λ v. v.items) c.in_ok-name.name c.self.inside.names.keys
    ∙ ap (λ (name : List ℕ). number_of name (with_file name (map (λ v. v.items) c.self.inside.names.keys))) c.in_ok-name.ensures
    ∙ ap (λ (files : List (List ℕ)). number_of c.args.name.now (with_file c.args.name.now files)) c.self.view_is

pub returns-clause-files : goal.returns-clause-files
returns-clause-files c =
    ap (map (λ v. v.items)) c.in_ok-place.ensures.keys ∙ files_named (λ v. v.items) c.in_ok-name.name c.self.inside.names.keys
    ∙ ap (λ (name : List ℕ). with_file name (map (λ v. v.items) c.self.inside.names.keys)) c.in_ok-name.ensures
    ∙ ap (λ (files : List (List ℕ)). with_file c.args.name.now files) c.self.view_is
