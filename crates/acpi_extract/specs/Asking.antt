-- The code's request as the definition's.
use Rattle.acpi_extract.specs.declared.words.Choice.{Choice}
use Rattle.acpi_extract.specs.declared.words.Choice.TheVariants as code
use Rattle.acpi_extract.specs.declared.words.Wish.{Wish}
use Rattle.acpi_extract.specs.Words.{Asked, Code, Every, Listing, One, Request}

abbrev pub asked_by : Choice → Asked
asked_by code.Code = Code
asked_by code.Every = Every
asked_by code.Listing = Listing
asked_by (code.One signature) = One signature.now

abbrev pub request_by : Wish → Request
request_by wish = record { asked = asked_by wish.choice; file = wish.file.now }
