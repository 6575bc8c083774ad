use Rattle.std.proofs.Common.{◌≡◌, drop, map}
use Rattle.di_io.specs.MemShelf.{file_bytes, content_of}
use Rattle.di_io.proofs.mem_shelf.find_content.Given as goal

-- the files so far have other names
abbrev pub invariant-loop-file : goal.invariant-loop-file
invariant-loop-file l =
    content_of (map file_bytes l.files) l.name ≡ content_of (map file_bytes (drop l.file-index l.files)) l.name
