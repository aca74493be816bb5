-- x falls with each call.
use Rattle.listing_lines.proofs.page.Page.+push_decimal.Given as goal

abbrev pub decreases-push_decimal : goal.decreases-push_decimal
decreases-push_decimal l = l.x
