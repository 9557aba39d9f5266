-- The laws of reading for the proofs of the crates above.
pub use Rattle.rota_layout.proofs.DaySteps.{day_by_pair}
pub use Rattle.rota_layout.proofs.DayTables.{all_rows, days-all, RowsAll, no_rows-all, row_set-all, day_table-all}
pub use Rattle.rota_layout.proofs.EndLemmas.{front_fails, then_read-same}
pub use Rattle.rota_layout.proofs.FileLaws.{Found, fault_in-read, file_steps, fills-read, one_meaning, spells-read}
pub use Rattle.rota_layout.proofs.NameSteps.{known_by_word, known_taken, refused}
pub use Rattle.rota_layout.proofs.RowSteps.{row_fails, row_steps}
pub use Rattle.rota_layout.proofs.SlotLaws.{all_push, known_name-below, known_name-free, length_push}
pub use Rattle.rota_layout.proofs.SlotLaws.{number-within, setting-within, shift_or-below}
pub use Rattle.rota_layout.proofs.TableLemmas.{rows_length}
pub use Rattle.rota_layout.proofs.TokenLemmas.{no_sign_no_blank, one_blank, tokens_from-sign, word_ends, word_goes_on}
