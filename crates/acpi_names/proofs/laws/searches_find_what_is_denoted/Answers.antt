use Rattle.acpi_names.proofs.Searched.{found_there, nothing_there, nothing_denoted}
use Rattle.acpi_names.proofs.laws.searches_find_what_is_denoted.Goals as goal

pub returns-clause-there : goal.returns-clause-there
returns-clause-there c = λ also shorten program names all. found_there also program names all shorten

pub returns-clause-absent : goal.returns-clause-absent
returns-clause-absent c = λ also shorten program names all. nothing_there also program names all shorten

pub returns-clause-nothing : goal.returns-clause-nothing
returns-clause-nothing c = λ also shorten program names all. nothing_denoted also program names all shorten
