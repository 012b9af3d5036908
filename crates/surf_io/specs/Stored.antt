-- Files that are kept in memory, as a map.
use Rattle.std.specs.Prelude.{ℕ, List, map, string_bytes}
use Rattle.std.specs.FinMap as finite
use Rattle.surf_io.specs.declared.stored_files.StoredFile.{StoredFile}
use Rattle.surf_io.specs.Files.{Files}

-- a file's name and its bytes
abbrev pub file_entry : StoredFile → List ℕ × List ℕ
file_entry file = (string_bytes file.name, file.bytes.items)

-- the map of the files; the first one with a name is the one that counts
abbrev pub files_of : List StoredFile → Files
files_of files = finite.from_entries (map file_entry files)
