mod FreshOpened
