use Rattle.loaded_pages.proofs.Pages.{page_holds}
use Rattle.loaded_pages.proofs.ReadPages.{loaded_page_is_read}
use Rattle.loaded_pages.proofs.laws.page_holds_words.Goals as goal

pub returns-clause-state : goal.returns-clause-state
returns-clause-state c = page_holds

pub returns-clause-history : goal.returns-clause-history
returns-clause-history c = loaded_page_is_read
