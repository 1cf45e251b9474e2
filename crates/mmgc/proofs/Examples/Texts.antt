-- The status and the text of each end.
use Rattle.std.proofs.Common.{◌≡◌, [], codes, refl}
use Rattle.std.specs.Fmt.{digits}
use Rattle.mm_model.specs.declared.refusal.LineFault.TheVariants.{LineTooLong, UnknownCommand, WordCount, BadWord}
use Rattle.mm_model.specs.declared.refusal.LineFault.TheVariants.{BadNumber}
use Rattle.mmgc.specs.Program.{status_of}
use Rattle.mmgc.specs.Telling.{end_text}
use Rattle.mmgc.specs.declared.replay.End.TheVariants.{Whole, Fault, ReadFailed, WriteFailed, TooLong}

pub whole : (status_of Whole ≡ 0) × (end_text Whole ≡ [])
whole = (refl, refl)

pub too_long_a_line :
    (status_of (Fault 1 LineTooLong) ≡ 1) × (end_text (Fault 1 LineTooLong) ≡ codes "mmgc: line 1: line too long\n")
unfolding digits
too_long_a_line = (refl, refl)

pub unknown_command : end_text (Fault 20 UnknownCommand) ≡ codes "mmgc: line 20: unknown command\n"
unfolding digits
unknown_command = refl

pub wrong_count : end_text (Fault 3 WordCount) ≡ codes "mmgc: line 3: wrong number of words\n"
unfolding digits
wrong_count = refl

pub bad_word : end_text (Fault 4294967295 BadWord) ≡ codes "mmgc: line 4294967295: bad word\n"
unfolding digits
bad_word = refl

pub bad_number : end_text (Fault 2 BadNumber) ≡ codes "mmgc: line 2: bad number\n"
unfolding digits
bad_number = refl

pub read_failed : (status_of ReadFailed ≡ 3) × (end_text ReadFailed ≡ codes "mmgc: read failed\n")
read_failed = (refl, refl)

pub write_failed : (status_of WriteFailed ≡ 4) × (end_text WriteFailed ≡ codes "mmgc: write failed\n")
write_failed = (refl, refl)

pub too_long : (status_of TooLong ≡ 6) × (end_text TooLong ≡ codes "mmgc: trace too long\n")
too_long = (refl, refl)
