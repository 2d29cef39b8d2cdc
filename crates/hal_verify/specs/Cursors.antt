-- What stands from a place of memory on.
use Rattle.std.specs.Prelude.{List, ◌++◌, replicate}
use Rattle.hal_code.specs.Images.{expanded}
use Rattle.hal_verify.specs.declared.room.Room.{Room}
use Rattle.hal_verify.specs.declared.cursor.Cursor.{Cursor}

abbrev pub seen_cursor : Cursor → List Room
seen_cursor at = replicate at.count at.room ++ expanded at.rest.now
