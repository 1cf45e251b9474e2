-- How a row of words lies in its arena.
use Rattle.std.specs.Prelude.{◌≡◌, ℕ, ◌^◌, ◌<◌}
use Rattle.std_alloc.specs.declared.vec.Vec.{Vec}
use Rattle.std_alloc.specs.declared.vec.lodged.Lodged.{Lodged}
use Rattle.std_alloc.specs.Vec.{vec_ptr, vec_len, vec_capacity}
use Rattle.mm_words.specs.declared.loan.Loan.{Loan}

-- the row's memory is what the loan speaks of
pub record IsSeated (row : Vec ℕ Lodged) (loan : Loan) : Type 0 where
  pub begins : vec_ptr row ≡ loan.ptr
  pub room : vec_capacity row ≡ loan.len

-- and each of its places holds a word
pub record IsFull (row : Vec ℕ Lodged) (loan : Loan) : Type 0 where
  pub seated : IsSeated row loan
  pub filled : vec_len row ≡ loan.len
  pub small : loan.len < 2 ^ 32
