mod MarketLaws
