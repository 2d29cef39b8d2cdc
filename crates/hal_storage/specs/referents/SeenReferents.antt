-- What each referent of the program is.
use Rattle.hal_storage.specs.cells.SeenStoring.{seen_storing}
use Rattle.hal_storage.specs.elements.SeenComponents.{seen_shape}
use Rattle.hal_storage.specs.declared.referents.referent.Referent as rust-referent
use Rattle.hal_storage.specs.declared.referents.referent.Referent.TheVariants as rust
use Rattle.hal_storage.specs.declared.referents.referent.Meant as rust-meant
use Rattle.hal_storage.specs.declared.referents.referent.Meant.TheVariants as rust_meant
use Rattle.hal_storage.specs.referents.Referents.{Referent, DataOf, ConstantOf, EventOf, BlockOf, BuiltinOf, Unmeant}

abbrev pub seen_referent : rust-referent.Referent → Referent
seen_referent (rust.Data declared stored shape) = DataOf declared (seen_storing stored) (seen_shape shape)
seen_referent (rust.Constant value) = ConstantOf value.value
seen_referent (rust.Event event) = EventOf event
seen_referent (rust.Block unit) = BlockOf unit
seen_referent rust.Nothing = Unmeant

abbrev pub seen_meant : rust-meant.Meant → Referent
seen_meant (rust_meant.Declared referent) = seen_referent referent.now
seen_meant (rust_meant.Builtin builtin) = BuiltinOf builtin
seen_meant rust_meant.Nothing = Unmeant
