-- The layouts of the tables, each in one place: what a table has, and what its template has.
use Rattle.std.specs.Prelude.{ℕ, List, [], ◌∷◌, codes}
use Rattle.data_layout.specs.declared.row.Row.{Row}
use Rattle.data_layout.specs.declared.row.Size.{Size}
use Rattle.data_layout.specs.declared.row.Behind.{Behind}
use Rattle.data_layout.specs.declared.row.Behind.TheVariants as b
use Rattle.data_layout.specs.declared.table.Table.{Table}
use Rattle.data_layout.specs.declared.table.Table.TheVariants as t
use Rattle.data_layout.specs.declared.rows.TheConstants.{SLIT, FADT_SIZES, FACP, APIC, MCFG, HPET, SRAT, WAET, BERT}
use Rattle.data_layout.specs.declared.rows.TheConstants.{BGRT, SPCR, TPM2_SIZES, TPM2, ERST, EINJ, PCCT, TCPA}
use Rattle.data_layout.specs.declared.rows.TheConstants.{GTDT_SIZES, GTDT, HEST, VIOT, NFIT, MCFG_ENTRY}
use Rattle.data_layout.specs.declared.rows.TheConstants.{INSTRUCTION_ENTRY, STRUCTURE_TYPE, SOURCE_TYPE, NODE_TYPE}
use Rattle.data_layout.specs.declared.rows.TheConstants.{LOCAL_APIC, IO_APIC, INTERRUPT_SOURCE_OVERRIDE, NMI_SOURCE}
use Rattle.data_layout.specs.declared.rows.TheConstants.{LOCAL_APIC_NMI, LOCAL_APIC_ADDRESS_OVERRIDE, LOCAL_X2APIC}
use Rattle.data_layout.specs.declared.rows.TheConstants.{LOCAL_X2APIC_NMI, GIC_CPU_INTERFACE, GIC_DISTRIBUTOR}
use Rattle.data_layout.specs.declared.rows.TheConstants.{GIC_MSI_FRAME, GIC_REDISTRIBUTOR, GIC_TRANSLATION_SERVICE}
use Rattle.data_layout.specs.declared.rows.TheConstants.{PROCESSOR_AFFINITY, MEMORY_AFFINITY, X2APIC_AFFINITY}
use Rattle.data_layout.specs.declared.rows.TheConstants.{GICC_AFFINITY, TRANSLATION_SERVICE_AFFINITY}
use Rattle.data_layout.specs.declared.rows.TheConstants.{INITIATOR_AFFINITY, GENERIC_SUBSPACE, REDUCED_SUBSPACE}
use Rattle.data_layout.specs.declared.rows.TheConstants.{ACKNOWLEDGED_SUBSPACE, EXTENDED_SUBSPACE, WATCHDOG_TIMER}
use Rattle.data_layout.specs.declared.rows.TheConstants.{ROOT_PORT_ERRORS, ENDPOINT_ERRORS, BRIDGE_ERRORS}
use Rattle.data_layout.specs.declared.rows.TheConstants.{GENERIC_ERRORS, ACKNOWLEDGED_ERRORS, PCI_RANGE, MMIO_ENDPOINT}
use Rattle.data_layout.specs.declared.rows.TheConstants.{VIRTIO_PCI, VIRTIO_MMIO, ADDRESS_RANGE, REGION_MAP}
use Rattle.data_layout.specs.declared.rows.TheConstants.{CONTROL_REGION, DATA_REGION, PLATFORM_CAPABILITIES}

-- a structure: its type, and its fields behind the type
pub record Structure : Type 0 where
  pub number : ℕ
  pub rows : List Row

-- A layout: the table and its signature; how many bytes the table has in each known revision, where the revision chooses
-- it (with no size each revision is known, and has all fields); the fields of the fixed part; what stands behind it, with the
-- fields of an entry, or what a structure begins with and the structures; and of the template the revision, the type of its structure, and the names of its
-- generic addresses.
pub record Layout : Type 0 where
  pub table : Table
  pub signature : List ℕ
  pub sizes : List Size
  pub fixed : List Row
  pub behind : Behind
  pub entries : List Row
  pub types : List Row
  pub structures : List Structure
  pub revision : ℕ
  pub structure : ℕ
  pub headings : List (List ℕ)

abbrev structure : ℕ → List Row → Structure
structure number rows = record { number = number; rows = rows }

-- the structures of the MADT (5.2.12)
abbrev pub madt_structures : List Structure
madt_structures =
    structure 0 LOCAL_APIC.now
    ∷ structure 1 IO_APIC.now
    ∷ structure 2 INTERRUPT_SOURCE_OVERRIDE.now
    ∷ structure 3 NMI_SOURCE.now
    ∷ structure 4 LOCAL_APIC_NMI.now
    ∷ structure 5 LOCAL_APIC_ADDRESS_OVERRIDE.now
    ∷ structure 9 LOCAL_X2APIC.now
    ∷ structure 10 LOCAL_X2APIC_NMI.now
    ∷ structure 11 GIC_CPU_INTERFACE.now
    ∷ structure 12 GIC_DISTRIBUTOR.now
    ∷ structure 13 GIC_MSI_FRAME.now
    ∷ structure 14 GIC_REDISTRIBUTOR.now
    ∷ structure 15 GIC_TRANSLATION_SERVICE.now
    ∷ []

-- the structures of the SRAT (5.2.16)
abbrev pub srat_structures : List Structure
srat_structures =
    structure 0 PROCESSOR_AFFINITY.now
    ∷ structure 1 MEMORY_AFFINITY.now
    ∷ structure 2 X2APIC_AFFINITY.now
    ∷ structure 3 GICC_AFFINITY.now
    ∷ structure 4 TRANSLATION_SERVICE_AFFINITY.now
    ∷ structure 5 INITIATOR_AFFINITY.now
    ∷ []

-- the structures of the PCCT (14.1)
abbrev pub pcct_structures : List Structure
pcct_structures =
    structure 0 GENERIC_SUBSPACE.now
    ∷ structure 1 REDUCED_SUBSPACE.now
    ∷ structure 2 ACKNOWLEDGED_SUBSPACE.now
    ∷ structure 3 EXTENDED_SUBSPACE.now
    ∷ structure 4 EXTENDED_SUBSPACE.now
    ∷ []

-- the structures of the GTDT (5.2.25)
abbrev pub gtdt_structures : List Structure
gtdt_structures =
    structure 1 WATCHDOG_TIMER.now
    ∷ []

-- the structures of the HEST (18.3.2)
abbrev pub hest_structures : List Structure
hest_structures =
    structure 6 ROOT_PORT_ERRORS.now
    ∷ structure 7 ENDPOINT_ERRORS.now
    ∷ structure 8 BRIDGE_ERRORS.now
    ∷ structure 9 GENERIC_ERRORS.now
    ∷ structure 10 ACKNOWLEDGED_ERRORS.now
    ∷ []

-- the structures of the VIOT
abbrev pub viot_structures : List Structure
viot_structures =
    structure 1 PCI_RANGE.now
    ∷ structure 2 MMIO_ENDPOINT.now
    ∷ structure 3 VIRTIO_PCI.now
    ∷ structure 4 VIRTIO_MMIO.now
    ∷ []

-- the structures of the NFIT (5.2.26)
abbrev pub nfit_structures : List Structure
nfit_structures =
    structure 0 ADDRESS_RANGE.now
    ∷ structure 1 REGION_MAP.now
    ∷ structure 4 CONTROL_REGION.now
    ∷ structure 5 DATA_REGION.now
    ∷ structure 7 PLATFORM_CAPABILITIES.now
    ∷ []

abbrev layout : Table → List ℕ → List Size → List Row → Behind → List Row → List Row → List Structure → ℕ → ℕ → List (List ℕ) → Layout
layout table signature sizes fixed behind entries types structures revision structure headings = record {
  table = table;
  signature = signature;
  sizes = sizes;
  fixed = fixed;
  behind = behind;
  entries = entries;
  types = types;
  structures = structures;
  revision = revision;
  structure = structure;
  headings = headings;
}

abbrev pub facp_headings : List (List ℕ)
facp_headings =
    codes "Reset Register"
    ∷ codes "PM1A Event Block"
    ∷ codes "PM1B Event Block"
    ∷ codes "PM1A Control Block"
    ∷ codes "PM1B Control Block"
    ∷ codes "PM2 Control Block"
    ∷ codes "PM Timer Block"
    ∷ codes "GPE0 Block"
    ∷ codes "GPE1 Block"
    ∷ codes "Sleep Control Register"
    ∷ codes "Sleep Status Register"
    ∷ []

abbrev pub slit_layout : Layout
slit_layout = layout t.Slit (codes "SLIT") [] SLIT.now b.Localities [] [] [] 1 0 []

-- the layouts of all tables
abbrev pub layouts : List Layout
layouts =
    slit_layout
    ∷ layout t.Facp (codes "FACP") FADT_SIZES.now FACP.now b.Nothing [] [] [] 6 0 facp_headings
    ∷ layout t.Apic (codes "APIC") [] APIC.now b.Structures [] STRUCTURE_TYPE.now madt_structures 5 0 []
    ∷ layout t.Mcfg (codes "MCFG") [] MCFG.now b.Entries MCFG_ENTRY.now [] [] 1 0 []
    ∷ layout t.Hpet (codes "HPET") [] HPET.now b.Nothing [] [] [] 1 0 (codes "Timer Block Register" ∷ [])
    ∷ layout t.Srat (codes "SRAT") [] SRAT.now b.Structures [] STRUCTURE_TYPE.now srat_structures 3 1 []
    ∷ layout t.Waet (codes "WAET") [] WAET.now b.Nothing [] [] [] 1 0 []
    ∷ layout t.Bert (codes "BERT") [] BERT.now b.Nothing [] [] [] 1 0 []
    ∷ layout t.Bgrt (codes "BGRT") [] BGRT.now b.Nothing [] [] [] 1 0 []
    ∷ layout t.Spcr (codes "SPCR") [] SPCR.now b.Nothing [] [] [] 2 0 (codes "Serial Port Register" ∷ [])
    ∷ layout t.Tpm2 (codes "TPM2") TPM2_SIZES.now TPM2.now b.Nothing [] [] [] 4 0 []
    ∷ layout t.Erst (codes "ERST") [] ERST.now b.Entries INSTRUCTION_ENTRY.now [] [] 1 0 (codes "Register Region" ∷ [])
    ∷ layout t.Einj (codes "EINJ") [] EINJ.now b.Entries INSTRUCTION_ENTRY.now [] [] 1 0 (codes "Register Region" ∷ [])
    ∷ layout t.Pcct (codes "PCCT") [] PCCT.now b.Structures [] STRUCTURE_TYPE.now pcct_structures 2 0 (codes "Doorbell Register" ∷ [])
    ∷ layout t.Tcpa (codes "TCPA") [] TCPA.now b.Nothing [] [] [] 2 0 []
    ∷ layout t.Gtdt (codes "GTDT") GTDT_SIZES.now GTDT.now b.Structures [] STRUCTURE_TYPE.now gtdt_structures 3 1 []
    ∷ layout t.Hest (codes "HEST") [] HEST.now b.Structures [] SOURCE_TYPE.now hest_structures 1 9 (codes "Error Status Address" ∷ [])
    ∷ layout t.Viot (codes "VIOT") [] VIOT.now b.Structures [] NODE_TYPE.now viot_structures 0 3 []
    ∷ layout t.Nfit (codes "NFIT") [] NFIT.now b.Structures [] SOURCE_TYPE.now nfit_structures 1 0 []
    ∷ []
