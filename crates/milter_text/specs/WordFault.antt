-- The numbers of the faults of a line.
use Rattle.std.specs.Prelude.{ℕ}
use Rattle.milter_text.specs.declared.word.WordFault.{WordFault}
use Rattle.milter_text.specs.declared.word.WordFault.TheVariants.{BadWord, NoMemory}

abbrev pub word_fault_number : WordFault → ℕ
word_fault_number BadWord = 1
word_fault_number NoMemory = 2
