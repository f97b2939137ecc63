use Rattle.file_generator.proofs.Framed.{file_framed, all_short}
use Rattle.file_generator.proofs.laws.file_laws.Goals as goal

pub returns-clause-entries : goal.returns-clause-entries
returns-clause-entries c number count le = file_framed number count le

pub returns-clause-short : goal.returns-clause-short
returns-clause-short c number count = all_short 0 count number
