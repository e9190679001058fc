-- The line that standard error gets at the end of a run.
use Rattle.std.specs.Prelude.{◌≡◌, ◌⊎◌, ℕ, List, [], ◌++◌, Option, Some, None, codes, decimal}
use Rattle.std.specs.Io.KnownBytes.{Appends}
use Rattle.term_syntax.specs.Lex.{Text}
use Rattle.pan_io.specs.Books.{NamedBytes}
use Rattle.pan_io.specs.Faults.{Rose}
use Rattle.pan_io.specs.Put.{AppendsPrefix}
use Rattle.command_line.specs.Form.{Command, run, serve, check, demo}
use Rattle.command_line.specs.Usage.{usage_note}
use Rattle.panto_cli.specs.Books.{Refuses}
use Rattle.panto_cli.specs.declared.status.Status.{Status}
use Rattle.panto_cli.specs.declared.status.Status.TheVariants.{Done, Usage, ReadFault, WriteFault, BookRefused, Full, OpenFault, Worn, Memory, Long}

-- the book that the words name
abbrev pub file_of : Option Command → Option Text
file_of None = None
file_of (Some (run book entries workers)) = book
file_of (Some (serve listen book entries workers sessions)) = book
file_of (Some (check file)) = Some file
file_of (Some (demo seed count)) = None

-- the address that the words of many links name
abbrev pub address_of : Option Command → Text
address_of None = []
address_of (Some (run book entries workers)) = []
address_of (Some (serve listen book entries workers sessions)) = listen
address_of (Some (check file)) = []
address_of (Some (demo seed count)) = []

-- how many entries the words leave room for
abbrev pub entries_of : Option Command → ℕ
entries_of None = 0
entries_of (Some (run book entries workers)) = entries
entries_of (Some (serve listen book entries workers sessions)) = entries
entries_of (Some (check file)) = 0
entries_of (Some (demo seed count)) = 0

-- the line of a status, where the words name this book and leave room for so many entries
abbrev pub IsNote : Option (List NamedBytes) → Option Text → ℕ → Status → List ℕ → Type 0
IsNote books file entries Done line = line ≡ []
IsNote books file entries Usage line = line ≡ usage_note
IsNote books file entries ReadFault line = line ≡ codes "panto: read fault\n"
IsNote books file entries WriteFault line = line ≡ codes "panto: write fault\n"
IsNote books file entries BookRefused line = (object : List ℕ) × Refuses books file object × (line ≡ codes "panto: book: " ++ (object ++ codes "\n"))
IsNote books file entries Full line = line ≡ codes "panto: full " ++ (decimal entries ++ codes "\n")
IsNote books file entries OpenFault line = line ≡ codes "panto: cannot open\n"
IsNote books file entries Worn line = line ≡ codes "panto: worn\n"
IsNote books file entries Memory line = line ≡ codes "panto: out of memory\n"
IsNote books file entries Long line = line ≡ codes "panto: input too long\n"

-- the notes took the line, or their count of faults rose and they took a prefix of it
abbrev pub Noted : Option (List ℕ) → Option (List ℕ) → ℕ → ℕ → List ℕ → Type 0
Noted notes notes' faults faults' line = Appends notes notes' line ⊎ (Rose faults faults' × AppendsPrefix notes notes' line)
